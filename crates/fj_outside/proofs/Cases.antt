-- Worked cases of the definitions.
use Rattle.std.proofs.Common.{◌≡◌, ◌-◌, ◌^◌, [], ◌∷◌, refl, arith, lit≤}
use Rattle.fj_outside.specs.Bytes.{written}
use Rattle.fj_outside.specs.Faults.{Rose}

written_inside : written (1 ∷ 2 ∷ 3 ∷ 4 ∷ []) 1 (8 ∷ 9 ∷ []) ≡ 1 ∷ 8 ∷ 9 ∷ 4 ∷ []
written_inside = refl

written_over_the_end : written (1 ∷ 2 ∷ []) 1 (8 ∷ 9 ∷ []) ≡ 1 ∷ 8 ∷ 9 ∷ []
written_over_the_end = refl

written_at_the_end : written (1 ∷ 2 ∷ []) 2 (8 ∷ []) ≡ 1 ∷ 2 ∷ 8 ∷ []
written_at_the_end = refl

rose_by_one : Rose 3 4
rose_by_one = lit≤ tt

rose_at_the_end : Rose (2 ^ 64 - 1) (2 ^ 64 - 1)
rose_at_the_end = lit≤ tt

not_rose_at_the_same : Rose 3 3 → ⊥
not_rose_at_the_same h = omega (arith, h)
