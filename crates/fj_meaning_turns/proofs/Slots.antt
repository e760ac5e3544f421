-- Lists of counts and slots.
use Rattle.std.proofs.Common.{◌≡◌, ◌⊎◌, ℕ, zero, suc, ◌+◌, ◌<◌, ◌≤◌, Bool, true, false, List, [], ◌∷◌, ◌++◌, map, length, Some, None, slice_get, set, get_or, replicate, refl, sym, ap, ◌∙◌, subst, inl, inr, nat_lt, ◌&&◌, ◌||◌, arith}
use Rattle.std.proofs.lemmas.Bool.{cases_Bool, ltb-true, ltb-false}
use Rattle.fj_meaning_jobs.proofs.Apart.{Each}

pub same_some : {X : Type 0} → {x y : X} → Some x ≡ Some y → x ≡ y
same_some e = cc

pub and_true : (a b : Bool) → (a && b) ≡ true → (a ≡ true) × (b ≡ true)
and_true true true e = (refl, refl)
and_true true false e = cc
and_true false b e = cc

pub or_true : (a b : Bool) → (a || b) ≡ true → (a ≡ true) ⊎ (b ≡ true)
or_true true b e = inl refl
or_true false b e = inr e

-- a number found in a mapped list
pub count_at : {X : Type 0} → (f : X → ℕ) (xs : List X) (k n : ℕ) → n < get_or (map f xs) k 0 → (x : X) × (slice_get xs k ≡ Some x) × (get_or (map f xs) k 0 ≡ f x)
count_at f [] k n h = absurd (omega (arith, h))
count_at f (x ∷ xs) zero n h = (x, refl, refl)
count_at f (x ∷ xs) (suc k) n h = count_at f xs k n h

pub get_mapped : {X : Type 0} → (f : X → ℕ) (xs : List X) (k : ℕ) (x : X) → slice_get xs k ≡ Some x → get_or (map f xs) k 0 ≡ f x
get_mapped f [] zero x e = cc
get_mapped f [] (suc k) x e = cc
get_mapped f (y ∷ xs) zero x e = let same : y ≡ x = cc in ap f same
get_mapped f (y ∷ xs) (suc k) x e = get_mapped f xs k x e

pub each_at : {X : Type 0} → (P : X → Type 0) (xs : List X) (k : ℕ) (x : X) → Each P xs → slice_get xs k ≡ Some x → P x
each_at P [] zero x h e = cc
each_at P [] (suc k) x h e = cc
each_at P (y ∷ xs) zero x h e = let same : y ≡ x = cc in subst P same h.0
each_at P (y ∷ xs) (suc k) x h e = each_at P xs k x h.1 e

pub each_set : {X : Type 0} → (P : X → Type 0) (xs : List X) (k : ℕ) (v : X) → Each P xs → P v → Each P (set xs k v)
each_set P [] k v h e = tt
each_set P (y ∷ xs) zero v h e = (e, h.1)
each_set P (y ∷ xs) (suc k) v h e = (h.0, each_set P xs k v h.1 e)

pub each_replicate : {X : Type 0} → (P : X → Type 0) (n : ℕ) (x : X) → P x → Each P (replicate n x)
each_replicate P zero x h = tt
each_replicate P (suc n) x h = (h, each_replicate P n x h)

pub map_set : {X Y : Type 0} → (f : X → Y) (xs : List X) (k : ℕ) (v : X) → map f (set xs k v) ≡ set (map f xs) k (f v)
map_set f [] k v = refl
map_set f (y ∷ xs) zero v = refl
map_set f (y ∷ xs) (suc k) v = ap (λ z. f y ∷ z) (map_set f xs k v)

pub map_get : {X Y : Type 0} → (f : X → Y) (xs : List X) (k : ℕ) (x : X) → slice_get xs k ≡ Some x → slice_get (map f xs) k ≡ Some (f x)
map_get f [] zero x e = cc
map_get f [] (suc k) x e = cc
map_get f (y ∷ xs) zero x e = let same : y ≡ x = cc in ap (λ z. Some (f z)) same
map_get f (y ∷ xs) (suc k) x e = map_get f xs k x e

pub get_set_here : (xs : List ℕ) (k v : ℕ) → k < length xs → get_or (set xs k v) k 0 ≡ v
get_set_here [] k v h = absurd (omega (arith, h))
get_set_here (y ∷ xs) zero v h = refl
get_set_here (y ∷ xs) (suc k) v h = get_set_here xs k v (omega (arith, h))

pub get_set_other : (xs : List ℕ) (k j v : ℕ) → (j ≡ k → ⊥) → get_or (set xs k v) j 0 ≡ get_or xs j 0
get_set_other [] k j v ne = refl
get_set_other (y ∷ xs) zero zero v ne = absurd (ne refl)
get_set_other (y ∷ xs) zero (suc j) v ne = refl
get_set_other (y ∷ xs) (suc k) zero v ne = refl
get_set_other (y ∷ xs) (suc k) (suc j) v ne = get_set_other xs k j v (λ q. ne (ap suc q))

pub length_set : {X : Type 0} → (xs : List X) (k : ℕ) (v : X) → length (set xs k v) ≡ length xs
length_set [] k v = refl
length_set (y ∷ xs) zero v = refl
length_set (y ∷ xs) (suc k) v = ap suc (length_set xs k v)

pub length_mapped : {X Y : Type 0} → (f : X → Y) (xs : List X) → length (map f xs) ≡ length xs
length_mapped f [] = refl
length_mapped f (x ∷ xs) = ap suc (length_mapped f xs)

pub set_found : {X : Type 0} → (xs : List X) (k : ℕ) (v x : X) → slice_get xs k ≡ Some x → slice_get (set xs k v) k ≡ Some v
set_found [] zero v x e = cc
set_found [] (suc k) v x e = cc
set_found (y ∷ xs) zero v x e = refl
set_found (y ∷ xs) (suc k) v x e = set_found xs k v x e

pub found_inside : {X : Type 0} → (xs : List X) (k : ℕ) (x : X) → slice_get xs k ≡ Some x → k < length xs
found_inside [] zero x e = cc
found_inside [] (suc k) x e = cc
found_inside (y ∷ xs) zero x e = omega (arith)
found_inside (y ∷ xs) (suc k) x e = omega (arith, found_inside xs k x e)

pub none_beyond : {X : Type 0} → (xs : List X) (k : ℕ) → length xs ≤ k → slice_get xs k ≡ None
none_beyond [] zero h = refl
none_beyond [] (suc k) h = refl
none_beyond (y ∷ xs) zero h = absurd (omega (arith, h))
none_beyond (y ∷ xs) (suc k) h = none_beyond xs k (omega (arith, h))

pub get_last : {X : Type 0} → (xs : List X) (x : X) → slice_get (xs ++ x ∷ []) (length xs) ≡ Some x
get_last [] x = refl
get_last (y ∷ xs) x = get_last xs x

pub is_below : (a b : ℕ) → a < b → nat_lt a b ≡ true
is_below a b h = elim (cases_Bool (nat_lt a b)) [ inl e ↦ e | inr e ↦ absurd (omega (arith, h, ltb-false a b e)) ]

pub not_below : (a b : ℕ) → b ≤ a → nat_lt a b ≡ false
not_below a b h = elim (cases_Bool (nat_lt a b)) [ inl e ↦ absurd (omega (arith, h, ltb-true a b e)) | inr e ↦ e ]

-- one more above changes nothing for another number
pub below_more : (n k : ℕ) → (n ≡ k → ⊥) → nat_lt n (k + 1) ≡ nat_lt n k
below_more n k ne =
    elim (cases_Bool (nat_lt n k)) [
      | inl a ↦ is_below n (k + 1) (omega (arith, ltb-true n k a)) ∙ sym a
      | inr a ↦ not_below n (k + 1) (higher (ltb-false n k a)) ∙ sym a
    ]
  where
    higher : k ≤ n → k + 1 ≤ n
    higher h = elim (cases_Bool (nat_lt k n)) [ inl e ↦ omega (arith, ltb-true k n e) | inr e ↦ absurd (ne (omega (arith, h, ltb-false k n e))) ]
