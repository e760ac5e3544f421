use Rattle.std.proofs.Common.{◌<◌, ◌≤◌, ◌-◌, ◌^◌, Some, ap, sym, ◌∙◌, arith}
use Rattle.std.proofs.lemmas.Int.{ints}
use Rattle.fj_value.proofs.DigitLaws.{two_halves}
use Rattle.fj_edit_in.proofs.Halves.{half_small, from_bits-low, from_bits-high, from_bits-none}
use Rattle.fj_edit_in.proofs.bits.signed_of.Goals as goal

pub returns-then-above-half : goal.returns-then-above-half
returns-then-above-half c =
    let small = half_small c.args.bits c.requires.1 in
    let whole = two_halves c.args.bits c.requires.0 in
    sym (from_bits-none c.args.bits c.args.amount (omega arith))

pub returns-then-amount-half : goal.returns-then-amount-half
returns-then-amount-half c =
    let small = half_small c.args.bits c.requires.1 in
    let low : c.args.amount < 2 ^ (c.args.bits - 1) = omega arith in
    ap (λ z. Some z) (omega (arith, ints)) ∙ sym (from_bits-low c.args.bits c.args.amount c.requires.0 low)

pub returns : goal.returns
returns c =
    let small = half_small c.args.bits c.requires.1 in
    let whole = two_halves c.args.bits c.requires.0 in
    let high : 2 ^ (c.args.bits - 1) ≤ c.args.amount = omega arith in
    let below : c.args.amount < 2 ^ c.args.bits = omega arith in
    ap (λ z. Some z) (omega (arith, ints)) ∙ sym (from_bits-high c.args.bits c.args.amount c.requires.0 high below)
