use Rattle.std.proofs.Common.{arith}
use Rattle.std.proofs.lemmas.Grind.{common_steps}
use Rattle.fj_edit_out.proofs.FieldCases.{AreRight, are_right}
use Rattle.fj_edit_out.proofs.laws.fields_fill_their_width.Goals as goal

pub returns : goal.returns
returns c = let _cases : AreRight = are_right in grind (arith, common_steps)
