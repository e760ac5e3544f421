use Rattle.fj_bay.proofs.BayProofs.{skips_in_halts}
use Rattle.fj_bay.proofs.laws.skips_in_halts.Goals as goal

pub returns : goal.returns
returns c = skips_in_halts
