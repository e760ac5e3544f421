use Rattle.fj_list.proofs.Constants.{constants_of_kind}
use Rattle.fj_list.proofs.laws.constants_are_of_kind.Goals as goal

pub returns : goal.returns
returns c = constants_of_kind
