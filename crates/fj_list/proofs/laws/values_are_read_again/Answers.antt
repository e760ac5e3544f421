use Rattle.fj_list.proofs.ListCases.{AreRight, are_right}
use Rattle.fj_list.proofs.ReadAgain.{values_again}
use Rattle.fj_list.proofs.laws.values_are_read_again.Goals as goal

pub returns : goal.returns
returns c = let _cases : AreRight = are_right in values_again
