use Rattle.fj_connect.proofs.OpeningProofs.{opens}
use Rattle.fj_connect.proofs.laws.opens_by_status.Goals as goal

pub returns : goal.returns
returns c = opens
