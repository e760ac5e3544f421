-- Parting a list in order by a test.
use Rattle.std.proofs.Common.{◌≡◌, ℕ, zero, suc, ◌+◌, ◌<◌, ◌≤◌, cond, not, Bool, true, false, List, [], ◌∷◌, ◌++◌, length, length-append, length-drop, take, drop, refl, sym, ap, ◌∙◌, arith}
use Rattle.std.specs.Prelude.{filter}
use Rattle.std.proofs.Math.Seq.{take-append_seam}
use Rattle.fj_meaning.proofs.Lists.{no_longer}

-- a list that is turned so far that the elements from a place on come first
pub turned_front : {X : Type 0} (xs : List X) (at n : ℕ) → n + at ≡ length xs → take n (drop at xs ++ take at xs) ≡ drop at xs
turned_front xs at n all =
    let long : length (drop at xs) ≡ n = omega (arith, all, length-drop at xs) in
    ap (λ k. take k (drop at xs ++ take at xs)) (sym long) ∙ take-append_seam (drop at xs) (take at xs)

pub has_room : {X : Type 0} (done : List X) (x : X) (some all : List X) (room : ℕ) → some ≡ done ++ x ∷ [] → length some ≤ length all → length all ≤ room → length done < room
has_room done x some all room made low fits = let longer : length some ≡ length done + 1 = ap length made ∙ length-append done (x ∷ []) in omega (arith, longer, low, fits)

module _ {X : Type 0} (p : X → Bool) where
  -- among more of the first elements no fewer pass
  pub prefix_low : (xs : List X) (i n : ℕ) → i ≤ n → length (filter p (take i xs)) ≤ length (filter p (take n xs))
  prefix_low xs zero n le = omega arith
  prefix_low [] (suc i) n le = omega arith
  prefix_low (x ∷ xs) (suc i) zero le = absurd (omega (arith, le))
  prefix_low (x ∷ xs) (suc i) (suc n) le = by (p x) (prefix_low xs i n (omega (arith, le)))
    where
      by : (b : Bool) → length (filter p (take i xs)) ≤ length (filter p (take n xs)) → length (cond b (x ∷ filter p (take i xs)) (filter p (take i xs))) ≤ length (cond b (x ∷ filter p (take n xs)) (filter p (take n xs)))
      by true low = omega (arith, low)
      by false low = low

  -- where all pass
  pub all_part : (xs : List X) → length (filter p xs) ≡ length xs → (xs ≡ filter p xs) × ([] ≡ filter (λ x. not (p x)) xs)
  all_part [] e = (refl, refl)
  all_part (x ∷ xs) e = by (p x) (all_part xs) e
    where
      by : (b : Bool) → (length (filter p xs) ≡ length xs → (xs ≡ filter p xs) × ([] ≡ filter (λ y. not (p y)) xs)) → length (cond b (x ∷ filter p xs) (filter p xs)) ≡ length (x ∷ xs)
          → (x ∷ xs ≡ cond b (x ∷ filter p xs) (filter p xs)) × ([] ≡ cond (not b) (x ∷ filter (λ y. not (p y)) xs) (filter (λ y. not (p y)) xs))
      by true next e = let two = next (omega (arith, e)) in (ap (λ l. x ∷ l) two.0, two.1)
      by false next e = absurd (omega (arith, e, no_longer p xs))
