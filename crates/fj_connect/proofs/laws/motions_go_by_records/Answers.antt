use Rattle.fj_connect.proofs.MotionProofs.{moves_by_records}
use Rattle.fj_connect.proofs.laws.motions_go_by_records.Goals as goal

pub returns : goal.returns
returns c = moves_by_records
