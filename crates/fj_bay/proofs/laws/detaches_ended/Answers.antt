use Rattle.fj_bay.proofs.BayProofs.{detaches_ended}
use Rattle.fj_bay.proofs.laws.detaches_ended.Goals as goal

pub returns : goal.returns
returns c = detaches_ended
