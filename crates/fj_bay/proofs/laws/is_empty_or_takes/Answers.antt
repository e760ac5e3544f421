use Rattle.fj_bay.proofs.BayProofs.{empty_or_takes}
use Rattle.fj_bay.proofs.laws.is_empty_or_takes.Goals as goal

pub returns : goal.returns
returns c = empty_or_takes
