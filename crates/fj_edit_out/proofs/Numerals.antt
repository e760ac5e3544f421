-- Writing the digits of a number from the last to the first.
use Rattle.std.proofs.Common.{◌≡◌, ℕ, ◌+◌, ◌-◌, ◌*◌, ◌/◌, ◌%◌, ◌^◌, ◌<◌, ◌≤◌, List, [], ◌∷◌, ◌++◌, length, drop, set, true, refl, sym, ap, ◌∙◌, arith, append_assoc, bit_and}
use Rattle.std.proofs.Math.Nat.{pow-le-pow_right}
use Rattle.std.specs.Fmt.{digit_glyph}
use Rattle.std.proofs.lemmas.Nat.{and_mask}
use Rattle.std.proofs.lemmas.Grind.{drop-set_at}
use Rattle.fj_value.specs.Digits.{numeral}
use Rattle.fj_value.proofs.DigitLaws.{numeral-step}

pub power_small : (shift : ℕ) → shift ≤ 4 → 2 ^ shift ≤ 16
power_small shift few = pow-le-pow_right {n = 2} (omega arith) few

pub power_base : (shift : ℕ) → 1 ≤ shift → 2 ≤ 2 ^ shift
power_base shift some = pow-le-pow_right {n = 2} (omega arith) some

pub masked : (n shift : ℕ) → shift ≤ 4 → bit_and n (1 * 2 ^ shift % 2 ^ 64 - 1) ≡ n % 2 ^ shift
masked n shift few = let e : 1 * 2 ^ shift % 2 ^ 64 ≡ 2 ^ shift = omega (arith, power_small shift few) in rw e (and_mask n shift)

-- one more digit in front of those that are written
pub digit_written : (base rest at n : ℕ) (buffer : List ℕ) → 2 ≤ base → 0 < rest → 0 < at → at ≤ length buffer → numeral base rest ++ drop at buffer ≡ numeral base n → numeral base (rest / base) ++ drop (at - 1) (set buffer (at - 1) (digit_glyph true (rest % base))) ≡ numeral base n
digit_written base rest at n buffer low some room within written =
    let next : at - 1 + 1 ≡ at = omega arith in
    let inside : at - 1 < length buffer = omega arith in
    ap (λ xs. numeral base (rest / base) ++ xs) (drop-set_at buffer (at - 1) (at - 1) (digit_glyph true (rest % base)) refl inside)
    ∙ ap (λ k. numeral base (rest / base) ++ digit_glyph true (rest % base) ∷ drop k buffer) next
    ∙ sym (append_assoc (numeral base (rest / base)) (digit_glyph true (rest % base) ∷ []) (drop at buffer))
    ∙ ap (λ xs. xs ++ drop at buffer) (sym (numeral-step base rest low some))
    ∙ written
