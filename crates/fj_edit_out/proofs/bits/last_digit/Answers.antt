use Rattle.fj_edit_out.proofs.Numerals.{masked}
use Rattle.fj_edit_out.proofs.bits.last_digit.Goals as goal

pub returns : goal.returns
returns c = masked c.args.n c.args.shift c.requires
