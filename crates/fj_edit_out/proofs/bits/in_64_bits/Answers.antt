use Rattle.std.proofs.Common.{arith}
use Rattle.fj_value.proofs.DigitLaws.{twos_complement-cast}
use Rattle.fj_edit_out.proofs.bits.in_64_bits.Goals as goal

pub returns : goal.returns
returns c = grind (arith, twos_complement-cast c.args.n c.ranges.n)
