use Rattle.fj_connect.proofs.RestProofs.{rests}
use Rattle.fj_connect.proofs.laws.records_have_rests.Goals as goal

pub returns : goal.returns
returns c = rests
