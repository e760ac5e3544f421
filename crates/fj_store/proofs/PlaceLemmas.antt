-- The places of runs.
use Rattle.std.proofs.Common.{◌≡◌, ℕ, zero, suc, ◌+◌, ◌-◌, ◌<◌, ◌≤◌, eqb, ltb, true, false, List, [], ◌∷◌, length, take, get_or, All, refl, ap, subst, ◌∙◌, inl, inr, arith, length-append}
use Rattle.std.proofs.lemmas.Bool.{ne_eqb, eq-eqb}
use Rattle.std.proofs.lemmas.Bool.Decides.{eqb_tells, nat_tests}
use Rattle.std.proofs.lemmas.List.{take_more}
use Rattle.std.proofs.lemmas.Grind.{flat_map-append}
use Rattle.fj_value.specs.declared.place.Place.{Place}
use Rattle.fj_store.specs.declared.run.Run.{Run}
use Rattle.fj_store.specs.Places.{is_among, counted_from, places_of, places_in}

pub length-counted_from : (var first n : ℕ) → length (counted_from var first n) ≡ n
length-counted_from var first zero = refl
length-counted_from var first (suc n) = ap suc (length-counted_from var (first + 1) n)

pub other_var : (var first n : ℕ) (p : Place) → (p.var ≡ var → ⊥) → is_among (counted_from var first n) p ≡ false
other_var var first zero p ne = refl
other_var var first (suc n) p ne = let e : eqb p.var var ≡ false = ne_eqb p.var var ne in rw e (other_var var (first + 1) n p ne)

pub below_first : (var first n : ℕ) (p : Place) → p.index < first → is_among (counted_from var first n) p ≡ false
below_first var first zero p low = refl
below_first var first (suc n) p low =
    let ne : eqb p.index first ≡ false = grind (arith, nat_tests) in
    let rest : is_among (counted_from var (first + 1) n) p ≡ false = below_first var (first + 1) n p (omega arith) in
    rw (ne, rest) (grind (arith, nat_tests))

pub from_first : (var first n : ℕ) (p : Place) → p.var ≡ var → first ≤ p.index → is_among (counted_from var first n) p ≡ ltb (p.index - first) n
from_first var first zero p same high = grind (arith, nat_tests)
from_first var first (suc n) p same high =
    let here : eqb p.var var ≡ true = eq-eqb p.var var same in
    elim (eqb_tells p.index first) [
      | inl first_one ↦ let short : ltb (p.index - first) (suc n) ≡ true = grind (arith, nat_tests) in rw (here, first_one.0, short) refl
      | inr later ↦
          let rest : is_among (counted_from var (first + 1) n) p ≡ ltb (p.index - (first + 1)) n = from_first var (first + 1) n p same (omega arith) in
          let one_less : ltb (p.index - (first + 1)) n ≡ ltb (p.index - first) (suc n) = grind (arith, nat_tests) in
          rw (here, later.0, rest) one_less
    ]

-- one more run has so many more places
pub places_more : (runs : List Run) (i : ℕ) (d : Run) → i < length runs → length (places_in (take (i + 1) runs)) ≡ length (places_in (take i runs)) + (get_or runs i d).count
places_more runs i d h =
    ap (λ xs. length (places_in xs)) (take_more runs i d h)
    ∙ ap length (flat_map-append places_of (take i runs) (get_or runs i d ∷ []))
    ∙ length-append (places_in (take i runs)) (places_in (get_or runs i d ∷ []))
    ∙ ap (λ n. length (places_in (take i runs)) + n) (length-append (places_of (get_or runs i d)) [] ∙ (let e = length-counted_from (get_or runs i d).var (get_or runs i d).first (get_or runs i d).count in omega arith))

-- each place of a run is read at its number
pub counted_at : (var first n k : ℕ) (d : Place) → k < n → get_or (counted_from var first n) k d ≡ record { var = var; index = first + k }
counted_at var first zero k d low = absurd (let never : ⊥ = omega (arith, low) in never)
counted_at var first (suc n) zero d low = ap (λ i. let p : Place = record { var = var; index = i } in p) (omega arith)
counted_at var first (suc n) (suc k) d low =
    counted_at var (first + 1) n k d (omega (arith, low)) ∙ ap (λ i. let p : Place = record { var = var; index = i } in p) (omega arith)

pub all_at : (P : Place → Type 0) (var first n k : ℕ) → All P (counted_from var first n) → k < n → P (record { var = var; index = first + k })
all_at P var first n k h low =
    let d : Place = record { var = var; index = first } in
    subst P (counted_at var first n k d low) (h k d (omega (arith, low, length-counted_from var first n)))
