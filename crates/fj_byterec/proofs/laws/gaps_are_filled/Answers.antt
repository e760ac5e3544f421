use Rattle.fj_byterec.proofs.Gaps.{filled}
use Rattle.fj_byterec.proofs.laws.gaps_are_filled.Goals as goal

pub returns : goal.returns
returns c = filled
