-- Two's complement as the machine holds it.
use Rattle.std.proofs.Common.{◌≡◌, ℕ, ◌-◌, ◌^◌, ◌<◌, ◌≤◌, Some, None, pos, negsuc, ap, ◌∙◌, arith}
use Rattle.std.proofs.Math.Nat.{pow-le-pow_right}
use Rattle.std.proofs.lemmas.Bool.Decides.{nat_tests}
use Rattle.fj_value.specs.Digits.{from_twos_complement}
use Rattle.fj_value.proofs.DigitLaws.{two_halves, from_low, from_high}
use Rattle.fj_edit_in.specs.Scan.{from_bits}

pub half_small : (bits : ℕ) → bits ≤ 64 → 2 ^ (bits - 1) ≤ 2 ^ 63
half_small bits few = pow-le-pow_right {n = 2} (omega arith) {i = bits - 1} {j = 63} (omega arith)

pub whole_small : (bits : ℕ) → bits ≤ 64 → 2 ^ bits ≤ 2 ^ 64
whole_small bits few = pow-le-pow_right {n = 2} (omega arith) few

within : (bits n : ℕ) → n < 2 ^ bits → from_bits bits n ≡ Some (from_twos_complement bits n)
within bits n h = grind (arith, nat_tests)

pub from_bits-low : (bits n : ℕ) → 1 ≤ bits → n < 2 ^ (bits - 1) → from_bits bits n ≡ Some (pos n)
from_bits-low bits n some low = within bits n (omega (arith, two_halves bits some)) ∙ ap (λ z. Some z) (from_low bits n low)

pub from_bits-high : (bits n : ℕ) → 1 ≤ bits → 2 ^ (bits - 1) ≤ n → n < 2 ^ bits → from_bits bits n ≡ Some (negsuc (2 ^ bits - 1 - n))
from_bits-high bits n some high below = within bits n below ∙ ap (λ z. Some z) (from_high bits n high)

pub from_bits-none : (bits n : ℕ) → 2 ^ bits ≤ n → from_bits bits n ≡ None
from_bits-none bits n h = grind (arith, nat_tests)
