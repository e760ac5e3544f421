use Rattle.fj_bay.proofs.BayProofs.{moves_on}
use Rattle.fj_bay.proofs.laws.moves_on.Goals as goal

pub returns : goal.returns
returns c = moves_on
