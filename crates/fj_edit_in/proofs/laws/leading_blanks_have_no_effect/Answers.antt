use Rattle.fj_edit_in.proofs.FieldCases.{AreRight, are_right}
use Rattle.fj_edit_in.proofs.Leading.{leading_blank}
use Rattle.fj_edit_in.proofs.laws.leading_blanks_have_no_effect.Goals as goal

pub returns : goal.returns
returns c = let _cases : AreRight = are_right in leading_blank
