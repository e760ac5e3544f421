use Rattle.fj_bay.proofs.BayProofs.{halts_until_resumed}
use Rattle.fj_bay.proofs.laws.halts_until_resumed.Goals as goal

pub returns : goal.returns
returns c = halts_until_resumed
