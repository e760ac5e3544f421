use Rattle.fj_bay.proofs.BayProofs.{leaves_bytes}
use Rattle.fj_bay.proofs.laws.leaves_bytes.Goals as goal

pub returns : goal.returns
returns c = leaves_bytes
