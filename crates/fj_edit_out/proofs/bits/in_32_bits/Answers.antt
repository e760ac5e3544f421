use Rattle.std.proofs.Common.{arith}
use Rattle.fj_value.proofs.DigitLaws.{twos_complement-low}
use Rattle.fj_edit_out.proofs.bits.in_32_bits.Goals as goal

pub returns : goal.returns
returns c = grind (arith, twos_complement-low c.args.n c.ranges.n)
