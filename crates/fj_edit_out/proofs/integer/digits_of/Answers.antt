use Rattle.std.proofs.Common.{ap, length, ℕ, arith}
use Rattle.fj_value.proofs.DigitLaws.{numeral-zero, numeral-decimal}
use Rattle.fj_edit_out.proofs.integer.digits_of.Goals as goal

pub returns-then-amount-eq0 : goal.returns-then-amount-eq0
returns-then-amount-eq0 c = record { digits = grind (arith, numeral-zero 10); short = omega arith }

pub returns : goal.returns
returns c = record { digits = grind (arith, numeral-decimal c.args.amount); short = omega (arith, ap (length {A = ℕ}) c.as_bytes.ensures.value) }
