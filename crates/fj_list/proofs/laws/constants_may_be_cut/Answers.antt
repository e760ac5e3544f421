use Rattle.fj_list.proofs.Cutting.{may_be_cut}
use Rattle.fj_list.proofs.laws.constants_may_be_cut.Goals as goal

pub returns : goal.returns
returns c = may_be_cut
