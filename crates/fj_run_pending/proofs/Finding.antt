-- The first element that passes a test, by looking at one after another.
use Rattle.std.proofs.Common.{◌≡◌, ℕ, zero, suc, ◌+◌, ◌<◌, ◌≤◌, cond, Bool, true, false, List, [], ◌∷◌, length, get_or, take, Some, None, refl, sym, ap, ◌∙◌, arith}
use Rattle.std.specs.List.{find}
use Rattle.fj_store.proofs.StoreLemmas.{whole}

module _ {X : Type 0} (f : X → Bool) where
  -- the first is not it, and the others are searched
  missed : (x : X) (xs : List X) → find f (x ∷ xs) ≡ None → (f x ≡ false) × (find f xs ≡ None)
  missed x xs e = by (f x) refl e
    where
      by : (b : Bool) → f x ≡ b → cond b (Some x) (find f xs) ≡ None → (f x ≡ false) × (find f xs ≡ None)
      by true k h = (let never : Some x ≡ None = h in cc)
      by false k h = (k, h)

  more : (xs : List X) (i : ℕ) (d : X) → i < length xs → f (get_or xs i d) ≡ false → find f (take i xs) ≡ None → find f (take (suc i) xs) ≡ None
  more [] i d low is none = absurd (omega arith)
  more (x ∷ xs) zero d low is none = ap (λ b. cond b (Some x) None) is
  more (x ∷ xs) (suc i) d low is none =
      let two = missed x (take i xs) none in ap (λ b. cond b (Some x) (find f (take (suc i) xs))) two.0 ∙ more xs i d (omega arith) is two.1

  pub find_more : (xs : List X) (i : ℕ) (d : X) → i < length xs → f (get_or xs i d) ≡ false → find f (take i xs) ≡ None → find f (take (i + 1) xs) ≡ None
  find_more xs i d low is none = ap (λ n. find f (take n xs)) (let e : i + 1 ≡ suc i = omega arith in e) ∙ more xs i d low is none

  pub find_here : (xs : List X) (i : ℕ) (d : X) → i < length xs → f (get_or xs i d) ≡ true → find f (take i xs) ≡ None → find f xs ≡ Some (get_or xs i d)
  find_here [] i d low is none = absurd (omega arith)
  find_here (x ∷ xs) zero d low is none = ap (λ b. cond b (Some x) (find f xs)) is
  find_here (x ∷ xs) (suc i) d low is none =
      let two = missed x (take i xs) none in ap (λ b. cond b (Some x) (find f xs)) two.0 ∙ find_here xs i d (omega arith) is two.1

  pub find_all : (xs : List X) (n : ℕ) → length xs ≤ n → find f (take n xs) ≡ None → find f xs ≡ None
  find_all xs n past none = ap (find f) (sym (whole xs n past)) ∙ none
