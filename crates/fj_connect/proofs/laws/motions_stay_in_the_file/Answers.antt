use Rattle.fj_connect.proofs.MotionProofs.{stands_after}
use Rattle.fj_connect.proofs.laws.motions_stay_in_the_file.Goals as goal

pub returns : goal.returns
returns c = stands_after
