-- Lists whose elements have numbers that differ.
use Rattle.std.proofs.Common.{◌≡◌, ℕ, Bool, true, false, not, List, [], ◌∷◌, ◌++◌, map, refl, sym, ap, ◌∙◌, ◌||◌}
use Rattle.std.specs.Prelude.{◌==◌, if◌then◌else◌, filter}
use Rattle.std.specs.List.{list_any}
use Rattle.std.proofs.lemmas.Bool.{eq-eqb}

-- a fact of each element
abbrev pub Each : {X : Type 0} → (X → Type 0) → List X → Type 0
Each P [] = Unit {0}
Each P (x ∷ xs) = P x × Each P xs

each_if : {X : Type 0} → (P : X → Type 0) (b : Bool) (x : X) (ys : List X) → P x → Each P ys → Each P (if b then x ∷ ys else ys)
each_if P true x ys h k = (h, k)
each_if P false x ys h k = k

pub each_filter : {X : Type 0} → (P : X → Type 0) (p : X → Bool) (xs : List X) → Each P xs → Each P (filter p xs)
each_filter P p [] h = tt
each_filter P p (x ∷ xs) h = each_if P (p x) x (filter p xs) h.0 (each_filter P p xs h.1)

pub each_append : {X : Type 0} → (P : X → Type 0) (xs ys : List X) → Each P xs → Each P ys → Each P (xs ++ ys)
each_append P [] ys h k = k
each_append P (x ∷ xs) ys h k = (h.0, each_append P xs ys h.1 k)

pub each_imp : {X : Type 0} → (P Q : X → Type 0) (xs : List X) → ((x : X) → P x → Q x) → Each P xs → Each Q xs
each_imp P Q [] f h = tt
each_imp P Q (x ∷ xs) f h = (f x h.0, each_imp P Q xs f h.1)

abbrev pub Differs : {X : Type 0} → (X → ℕ) → ℕ → List X → Type 0
Differs f n xs = Each (λ x. f x ≡ n → ⊥) xs

abbrev pub Apart : {X : Type 0} → (X → ℕ) → List X → Type 0
Apart f [] = Unit {0}
Apart f (x ∷ xs) = Differs f (f x) xs × Apart f xs

apart_if : {X : Type 0} → (f : X → ℕ) (b : Bool) (x : X) (ys : List X) → Differs f (f x) ys → Apart f ys → Apart f (if b then x ∷ ys else ys)
apart_if f true x ys h k = (h, k)
apart_if f false x ys h k = k

pub apart_filter : {X : Type 0} → (f : X → ℕ) (p : X → Bool) (xs : List X) → Apart f xs → Apart f (filter p xs)
apart_filter f p [] h = tt
apart_filter f p (x ∷ xs) h = apart_if f (p x) x (filter p xs) (each_filter (λ y. f y ≡ f x → ⊥) p xs h.0) (apart_filter f p xs h.1)

pub apart_append : {X : Type 0} → (f : X → ℕ) (xs ys : List X) → Apart f xs → Apart f ys → Each (λ y. Differs f (f y) xs) ys → Apart f (xs ++ ys)
apart_append f [] ys h k d = k
apart_append f (x ∷ xs) ys h k d = (
  each_append (λ y. f y ≡ f x → ⊥) xs ys h.0 (each_imp (λ y. Differs f (f y) (x ∷ xs)) (λ y. f y ≡ f x → ⊥) ys (λ y g e. g.0 (sym e)) d),
  apart_append f xs ys h.1 k (each_imp (λ y. Differs f (f y) (x ∷ xs)) (λ y. Differs f (f y) xs) ys (λ y g. g.1) d),
)

pub each_map : {X Y : Type 0} → (P : Y → Type 0) (g : X → Y) (xs : List X) → Each (λ x. P (g x)) xs → Each P (map g xs)
each_map P g [] h = tt
each_map P g (x ∷ xs) h = (h.0, each_map P g xs h.1)

pub each_both : {X : Type 0} → (P Q R : X → Type 0) (xs : List X) → ((x : X) → P x → Q x → R x) → Each P xs → Each Q xs → Each R xs
each_both P Q R [] f h k = tt
each_both P Q R (x ∷ xs) f h k = (f x h.0 k.0, each_both P Q R xs f h.1 k.1)

pub differs_any : {X : Type 0} → (f : X → ℕ) (n : ℕ) (xs : List X) → list_any (λ x. f x == n) xs ≡ false → Differs f n xs
differs_any f n [] h = tt
differs_any f n (x ∷ xs) h =
    let two = or_false (f x == n) (list_any (λ y. f y == n) xs) h in
    ((λ e. no (sym two.0 ∙ eq-eqb (f x) n e)), differs_any f n xs two.1)
  where
    or_false : (a b : Bool) → (a || b) ≡ false → (a ≡ false) × (b ≡ false)
    or_false true b e = cc
    or_false false b e = (refl, e)

    no : false ≡ true → ⊥
    no e = cc

pub filter_map : {X Y : Type 0} → (g : X → Y) (q : Y → Bool) (xs : List X) → filter q (map g xs) ≡ map g (filter (λ x. q (g x)) xs)
filter_map g q [] = refl
filter_map g q (x ∷ xs) = by (q (g x)) (filter_map g q xs)
  where
    by : (b : Bool) → filter q (map g xs) ≡ map g (filter (λ y. q (g y)) xs) → (if b then g x ∷ filter q (map g xs) else filter q (map g xs)) ≡ map g (if b then x ∷ filter (λ y. q (g y)) xs else filter (λ y. q (g y)) xs)
    by true e = ap (λ l. g x ∷ l) e
    by false e = e

pub any_map : {X Y : Type 0} → (g : X → Y) (q : Y → Bool) (xs : List X) → list_any q (map g xs) ≡ list_any (λ x. q (g x)) xs
any_map g q [] = refl
any_map g q (x ∷ xs) = ap (λ b. q (g x) || b) (any_map g q xs)

pub map_same : {X Y : Type 0} → (f g : X → Y) (xs : List X) → Each (λ x. f x ≡ g x) xs → map f xs ≡ map g xs
map_same f g [] h = refl
map_same f g (x ∷ xs) h = ap (λ y. y ∷ map f xs) h.0 ∙ ap (λ ys. g x ∷ ys) (map_same f g xs h.1)

pub apart_map : {X Y : Type 0} → (f : X → ℕ) (f' : Y → ℕ) (g : X → Y) (xs : List X) → ((x : X) → f' (g x) ≡ f x) → Apart f xs → Apart f' (map g xs)
apart_map f f' g [] e h = tt
apart_map f f' g (x ∷ xs) e h =
    (each_map (λ y. f' y ≡ f' (g x) → ⊥) g xs (each_imp (λ y. f y ≡ f x → ⊥) (λ y. f' (g y) ≡ f' (g x) → ⊥) xs (λ y ne q. ne (sym (e y) ∙ q ∙ e x)) h.0), apart_map f f' g xs e h.1)

-- the one part of a list has no number of the other
split_differs : {X : Type 0} → (f : X → ℕ) (p : X → Bool) (xs : List X) → Apart f xs → Each (λ y. Differs f (f y) (filter p xs)) (filter (λ x. not (p x)) xs)
split_differs f p [] h = tt
split_differs f p (x ∷ xs) h = by (p x) (split_differs f p xs h.1) (each_filter (λ y. f y ≡ f x → ⊥) p xs h.0) (each_filter (λ y. f y ≡ f x → ⊥) (λ y. not (p y)) xs h.0)
  where
    by : (b : Bool) → Each (λ y. Differs f (f y) (filter p xs)) (filter (λ z. not (p z)) xs) → Differs f (f x) (filter p xs) → Differs f (f x) (filter (λ z. not (p z)) xs)
        → Each (λ y. Differs f (f y) (if b then x ∷ filter p xs else filter p xs)) (if not b then x ∷ filter (λ z. not (p z)) xs else filter (λ z. not (p z)) xs)
    by true g d e = each_both (λ y. Differs f (f y) (filter p xs)) (λ y. f y ≡ f x → ⊥) (λ y. Differs f (f y) (x ∷ filter p xs)) (filter (λ z. not (p z)) xs) (λ y a b. ((λ q. b (sym q)), a)) g e
    by false g d e = (d, g)

pub apart_split : {X : Type 0} → (f : X → ℕ) (p : X → Bool) (xs : List X) (new : X) → Apart f xs → Differs f (f new) xs → Apart f (filter p xs ++ new ∷ filter (λ x. not (p x)) xs)
apart_split f p xs new h d =
    apart_append f (filter p xs) (new ∷ filter (λ x. not (p x)) xs) (apart_filter f p xs h)
    (each_filter (λ y. f y ≡ f new → ⊥) (λ x. not (p x)) xs d, apart_filter f (λ x. not (p x)) xs h)
    (each_filter (λ y. f y ≡ f new → ⊥) p xs d, split_differs f p xs h)

pub filter_each : {X : Type 0} → (p q : X → Bool) (xs : List X) → Each (λ x. p x ≡ q x) xs → filter p xs ≡ filter q xs
filter_each p q [] h = refl
filter_each p q (x ∷ xs) h = ap (λ b. if b then x ∷ filter p xs else filter p xs) h.0 ∙ ap (λ l. if q x then x ∷ l else l) (filter_each p q xs h.1)
