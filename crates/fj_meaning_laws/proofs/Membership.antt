-- Elements of lists that are made of others.
use Rattle.std.proofs.Common.{◌≡◌, ℕ, zero, suc, ◌+◌, ◌<◌, ◌≤◌, List, [], ◌∷◌, ◌++◌, map, length, get_or, Option, Some, None, unwrap_or, refl, sym, ap, ◌∙◌, subst, ◌⊎◌, inl, inr, arith}
use Rattle.std.specs.List.{Contains, flat_map}
use Rattle.std.proofs.lemmas.List.Elements.{Contains-append_left, Contains-append_right, Contains-append_cases}

pub nowhere : {X P : Type 0} (x : X) → Contains [] x → P
nowhere x at = absurd (omega (arith, at.1))

pub some_is : {X : Type 0} (x y : X) → ◌≡◌ {A = Option X} (Some x) (Some y) → x ≡ y
some_is x y e = ap (λ o. unwrap_or o x) e

module _ {X : Type 0} where
  pub heads : (x : X) (xs : List X) (y : X) → x ≡ y → Contains (x ∷ xs) y
  heads x xs y e = (0, omega arith, e)

  pub tails : (x : X) (xs : List X) (y : X) → Contains xs y → Contains (x ∷ xs) y
  tails x xs y at = let lt = at.1 in (suc at.0, omega arith, at.2)

  pub at_cons : (x : X) (xs : List X) (y : X) → Contains (x ∷ xs) y → (x ≡ y) ⊎ Contains xs y
  at_cons x xs y at = by at.0 at.1 at.2
    where
      by : (k : ℕ) → k < length (x ∷ xs) → get_or (x ∷ xs) k y ≡ y → (x ≡ y) ⊎ Contains xs y
      by zero lt e = inl e
      by (suc k) lt e = inr (k, omega arith, e)

  pub only : (x y : X) → Contains (x ∷ []) y → x ≡ y
  only x y at = by (at_cons x [] y at)
    where
      by : (x ≡ y) ⊎ Contains [] y → x ≡ y
      by (inl e) = e
      by (inr k) = nowhere y k

module _ {X A : Type 0} (f : X → List A) (a : A) where
  pub flat_to : (xs : List X) → Contains (flat_map f xs) a → (x : X) × Contains xs x × Contains (f x) a
  flat_to [] at = nowhere a at
  flat_to (x ∷ xs) at = by (Contains-append_cases (f x) (flat_map f xs) a at) (flat_to xs)
    where
      by : Contains (f x) a ⊎ Contains (flat_map f xs) a → (Contains (flat_map f xs) a → (y : X) × Contains xs y × Contains (f y) a)
          → (y : X) × Contains (x ∷ xs) y × Contains (f y) a
      by (inl h) rest = (x, heads x xs x refl, h)
      by (inr h) rest = let found = rest h in (found.0, tails x xs found.0 found.1, found.2)

  pub flat_from : (xs : List X) (x : X) → Contains xs x → Contains (f x) a → Contains (flat_map f xs) a
  flat_from [] x at h = nowhere x at
  flat_from (y ∷ ys) x at h = by (at_cons y ys x at) (flat_from ys x)
    where
      by : (y ≡ x) ⊎ Contains ys x → (Contains ys x → Contains (f x) a → Contains (flat_map f ys) a) → Contains (f y ++ flat_map f ys) a
      by (inl e) rest = Contains-append_left (f y) (flat_map f ys) a (subst (λ z. Contains (f z) a) (sym e) h)
      by (inr k) rest = Contains-append_right (f y) (flat_map f ys) a (rest k h)

module _ {X A : Type 0} (f : X → A) (a : A) where
  pub map_to : (xs : List X) → Contains (map f xs) a → (x : X) × Contains xs x × (f x ≡ a)
  map_to [] at = nowhere a at
  map_to (x ∷ xs) at = by (at_cons (f x) (map f xs) a at) (map_to xs)
    where
      by : (f x ≡ a) ⊎ Contains (map f xs) a → (Contains (map f xs) a → (y : X) × Contains xs y × (f y ≡ a)) → (y : X) × Contains (x ∷ xs) y × (f y ≡ a)
      by (inl e) rest = (x, heads x xs x refl, e)
      by (inr h) rest = let found = rest h in (found.0, tails x xs found.0 found.1, found.2)

  pub map_from : (xs : List X) (x : X) → Contains xs x → f x ≡ a → Contains (map f xs) a
  map_from [] x at e = nowhere x at
  map_from (y ∷ ys) x at e = by (at_cons y ys x at) (map_from ys x)
    where
      by : (y ≡ x) ⊎ Contains ys x → (Contains ys x → f x ≡ a → Contains (map f ys) a) → Contains (f y ∷ map f ys) a
      by (inl same) rest = heads (f y) (map f ys) a (ap f same ∙ e)
      by (inr k) rest = tails (f y) (map f ys) a (rest k e)
