use Rattle.fj_bay.proofs.Differences.{finds_first_difference}
use Rattle.fj_bay.proofs.laws.finds_first_difference.Goals as goal

pub returns : goal.returns
returns c = finds_first_difference
