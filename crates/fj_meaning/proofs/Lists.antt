-- Pairs, filters and tests of lists.
use Rattle.std.proofs.Common.{◌≡◌, zero, suc, ◌+◌, ◌≤◌, Bool, true, false, List, [], ◌∷◌, ◌++◌, map, length, get_or, refl, sym, ap, ◌∙◌, ◌&&◌, ◌||◌, arith}
use Rattle.std.specs.Prelude.{if◌then◌else◌, filter}
use Rattle.std.specs.List.{All, AllPairs, list_any}
use Rattle.std.proofs.lemmas.Bool.{or_parts}
use Rattle.std.proofs.lemmas.List.Elements.{All-nil, All-cons, All-head, All-tail, All-append, All-map}
use Rattle.std.proofs.lemmas.List.Kept.{AllPairs-cons}

pub no : {P : Type 0} → false ≡ true → P
no e = absurd (never e)
  where
    never : false ≡ true → ⊥
    never e = cc

module _ {X : Type 0} (R : X → X → Type 0) where
  pub pairs_none : AllPairs R []
  pairs_none i j d lt within = absurd (omega arith)

  pub pairs_head : (x : X) (xs : List X) → AllPairs R (x ∷ xs) → All (R x) xs
  pairs_head x xs h k d within = h zero (suc k) d (omega arith) (omega arith)

  pub pairs_tail : (x : X) (xs : List X) → AllPairs R (x ∷ xs) → AllPairs R xs
  pairs_tail x xs h i j d lt within = h (suc i) (suc j) d (omega arith) (omega arith)

  pub pairs_append : (xs ys : List X) → AllPairs R xs → AllPairs R ys → All (λ x. All (R x) ys) xs → AllPairs R (xs ++ ys)
  pairs_append [] ys h k d = k
  pairs_append (x ∷ xs) ys h k d =
      AllPairs-cons R x (xs ++ ys) (All-append (R x) xs ys (pairs_head x xs h) (All-head (λ y. All (R y) ys) x xs d))
      (pairs_append xs ys (pairs_tail x xs h) k (All-tail (λ y. All (R y) ys) x xs d))

  pub pairs_map : {Y : Type 0} (f : Y → X) (ys : List Y) → AllPairs (λ a b. R (f a) (f b)) ys → AllPairs R (map f ys)
  pairs_map f [] h = pairs_none
  pairs_map f (y ∷ ys) h =
      AllPairs-cons R (f y) (map f ys) (All-map (R (f y)) f ys (λ k d within. h zero (suc k) d (omega arith) (omega arith)))
      (pairs_map f ys (λ i j d lt within. h (suc i) (suc j) d (omega arith) (omega arith)))

pub pairs_weaker : {X : Type 0} (R S : X → X → Type 0) (xs : List X) → ((x y : X) → R x y → S x y) → AllPairs R xs → AllPairs S xs
pairs_weaker R S xs f h i j d lt within = f (get_or xs i d) (get_or xs j d) (h i j d lt within)

pub all_both : {X : Type 0} (P Q R : X → Type 0) (xs : List X) → ((x : X) → P x → Q x → R x) → All P xs → All Q xs → All R xs
all_both P Q R xs f h g k d within = f (get_or xs k d) (h k d within) (g k d within)

pub filter_where : {X : Type 0} (p q : X → Bool) (xs : List X) → All (λ x. p x ≡ q x) xs → filter p xs ≡ filter q xs
filter_where p q [] h = refl
filter_where p q (x ∷ xs) h =
    ap (λ b. if b then x ∷ filter p xs else filter p xs) (All-head (λ y. p y ≡ q y) x xs h)
    ∙ ap (λ l. if q x then x ∷ l else l) (filter_where p q xs (All-tail (λ y. p y ≡ q y) x xs h))

pub filter_true : {X : Type 0} (xs : List X) → filter (λ _. true) xs ≡ xs
filter_true [] = refl
filter_true (x ∷ xs) = ap (λ l. x ∷ l) (filter_true xs)

pub filter_false : {X : Type 0} (xs : List X) → filter (λ _. false) xs ≡ []
filter_false [] = refl
filter_false (x ∷ xs) = filter_false xs

pub filter_two : {X : Type 0} (p q : X → Bool) (xs : List X) → filter p (filter q xs) ≡ filter (λ x. q x && p x) xs
filter_two p q [] = refl
filter_two p q (x ∷ xs) = by (q x) (p x) refl (filter_two p q xs)
  where
    by : (b c : Bool) → p x ≡ c → filter p (filter q xs) ≡ filter (λ y. q y && p y) xs
        → filter p (if b then x ∷ filter q xs else filter q xs) ≡ (if b && p x then x ∷ filter (λ y. q y && p y) xs else filter (λ y. q y && p y) xs)
    by true c e h = ap (λ l. if p x then x ∷ l else l) h
    by false c e h = h

-- what holds of those that pass holds of each that passes
pub all_passing : {X : Type 0} (p : X → Bool) (P : X → Type 0) (xs : List X) → All P (filter p xs) → All (λ x. p x ≡ true → P x) xs
all_passing p P [] h = All-nil (λ x. p x ≡ true → P x)
all_passing p P (x ∷ xs) h = by (p x) refl h (all_passing p P xs)
  where
    by : (b : Bool) → p x ≡ b → All P (if b then x ∷ filter p xs else filter p xs) → (All P (filter p xs) → All (λ y. p y ≡ true → P y) xs) → All (λ y. p y ≡ true → P y) (x ∷ xs)
    by true e g f = All-cons (λ y. p y ≡ true → P y) x xs (λ _. All-head P x (filter p xs) g) (f (All-tail P x (filter p xs) g))
    by false e g f = All-cons (λ y. p y ≡ true → P y) x xs (λ k. no (sym e ∙ k)) (f g)

pub none_passes : {X : Type 0} (p : X → Bool) (xs : List X) → list_any p xs ≡ false → All (λ x. p x ≡ false) xs
none_passes p [] h = All-nil (λ x. p x ≡ false)
none_passes p (x ∷ xs) h =
    let two = or_parts (p x) (list_any p xs) h in All-cons (λ y. p y ≡ false) x xs two.0 (none_passes p xs two.1)

pub any_same : {X : Type 0} (p q : X → Bool) (xs : List X) → ((x : X) → p x ≡ q x) → list_any p xs ≡ list_any q xs
any_same p q [] f = refl
any_same p q (x ∷ xs) f = ap (λ b. b || list_any p xs) (f x) ∙ ap (λ b. q x || b) (any_same p q xs f)

pub any_map : {X Y : Type 0} (g : X → Y) (q : Y → Bool) (xs : List X) → list_any q (map g xs) ≡ list_any (λ x. q (g x)) xs
any_map g q [] = refl
any_map g q (x ∷ xs) = ap (λ b. q (g x) || b) (any_map g q xs)

pub no_longer : {X : Type 0} (p : X → Bool) (xs : List X) → length (filter p xs) ≤ length xs
no_longer p [] = omega arith
no_longer p (x ∷ xs) = by (p x) (no_longer p xs)
  where
    by : (b : Bool) → length (filter p xs) ≤ length xs → length (if b then x ∷ filter p xs else filter p xs) ≤ length (x ∷ xs)
    by true h = omega arith
    by false h = omega arith

-- two tests of which an element passes one at the most
pub no_longer_both : {X : Type 0} (p q : X → Bool) (xs : List X) → ((x : X) → p x ≡ true → q x ≡ false) → length (filter p xs) + length (filter q xs) ≤ length xs
no_longer_both p q [] f = omega arith
no_longer_both p q (x ∷ xs) f = by (p x) (q x) (f x) (no_longer_both p q xs f)
  where
    by : (b c : Bool) → (b ≡ true → c ≡ false) → length (filter p xs) + length (filter q xs) ≤ length xs
        → length (if b then x ∷ filter p xs else filter p xs) + length (if c then x ∷ filter q xs else filter q xs) ≤ length (x ∷ xs)
    by true true g h = no (sym (g refl))
    by true false g h = omega arith
    by false true g h = omega arith
    by false false g h = omega arith
