-- What all elements of a list pass, and what none of them passes.
use Rattle.std.proofs.Common.{◌≡◌, ℕ, zero, suc, ◌<◌, ◌&&◌, ◌||◌, not, Bool, true, false, List, [], ◌∷◌, length, get_or, slice_set, refl, sym, ap, ◌∙◌, arith}
use Rattle.std.specs.List.{list_all, list_any}
use Rattle.std.proofs.lemmas.Bool.{false≢true, not-true}

parts : (a b : Bool) → (a && b) ≡ true → (a ≡ true) × (b ≡ true)
parts true b e = (refl, e)
parts false b e = absurd (false≢true e)

both : (a b : Bool) → a ≡ true → b ≡ true → (a && b) ≡ true
both a b ea eb = ap (λ x. x && b) ea ∙ eb

-- another one that passes
pub all_set : {T : Type 0} → (p : T → Bool) (xs : List T) (i : ℕ) (a : T) → p a ≡ true → list_all p xs ≡ true → list_all p (slice_set xs i a) ≡ true
all_set p [] zero a here all = refl
all_set p [] (suc i) a here all = refl
all_set p (x ∷ xs) zero a here all = both (p a) (list_all p xs) here (parts (p x) (list_all p xs) all).1
all_set p (x ∷ xs) (suc i) a here all =
    let old = parts (p x) (list_all p xs) all in
    both (p x) (list_all p (slice_set xs i a)) old.0 (all_set p xs i a here old.1)

-- each of them passes
pub all_at : {T : Type 0} → (p : T → Bool) (xs : List T) (i : ℕ) (x : T) → list_all p xs ≡ true → i < length xs → x ≡ get_or xs i x → p x ≡ true
all_at p [] i x all low is = absurd (let never : ⊥ = omega (arith, low) in never)
all_at p (y ∷ xs) zero x all low is = ap p is ∙ (parts (p y) (list_all p xs) all).0
all_at p (y ∷ xs) (suc i) x all low is = all_at p xs i x (parts (p y) (list_all p xs) all).1 (omega arith) is

-- ---- what none of them passes

neither : (a b : Bool) → (a || b) ≡ false → (a ≡ false) × (b ≡ false)
neither true b e = absurd (false≢true (sym e))
neither false b e = (refl, e)

-- another one that does not pass
pub none_set : {T : Type 0} → (p : T → Bool) (xs : List T) (i : ℕ) (a : T) → p a ≡ false → list_any p xs ≡ false → list_any p (slice_set xs i a) ≡ false
none_set p [] zero a here none = refl
none_set p [] (suc i) a here none = refl
none_set p (x ∷ xs) zero a here none = ap (λ b. b || list_any p xs) here ∙ (neither (p x) (list_any p xs) none).1
none_set p (x ∷ xs) (suc i) a here none =
    let old = neither (p x) (list_any p xs) none in
    ap (λ b. b || list_any p (slice_set xs i a)) old.0 ∙ none_set p xs i a here old.1

-- ---- what is known of elements, with another one in the place of one

pub all_replaced : {T : Type 0} → (p : T → Bool) (xs : List T) (i : ℕ) (a : T) (known fits : Bool) → (known ≡ true → list_all p xs ≡ true) → fits ≡ p a → (known && fits) ≡ true → list_all p (slice_set xs i a) ≡ true
all_replaced p xs i a known fits all is both =
    let each = parts known fits both in
    all_set p xs i a (sym is ∙ each.1) (all each.0)

pub none_replaced : {T : Type 0} → (p : T → Bool) (xs : List T) (i : ℕ) (a : T) (known passes : Bool) → (known ≡ true → list_any p xs ≡ false) → passes ≡ p a → (known && not passes) ≡ true → list_any p (slice_set xs i a) ≡ false
none_replaced p xs i a known passes none is both =
    let each = parts known (not passes) both in
    none_set p xs i a (sym is ∙ not-true passes each.1) (none each.0)
