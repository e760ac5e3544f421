use Rattle.fj_connect.proofs.OpeningProofs.{decides}
use Rattle.fj_connect.proofs.laws.status_decides.Goals as goal

pub returns : goal.returns
returns c = decides
