use Rattle.fj_namelist.proofs.Again.{again}
use Rattle.fj_namelist.proofs.GroupCases.{AreRight, are_right}
use Rattle.fj_namelist.proofs.laws.groups_are_read_again.Goals as goal

pub returns : goal.returns
returns c = let _cases : AreRight = are_right in again
