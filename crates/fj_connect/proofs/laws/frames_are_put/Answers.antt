use Rattle.fj_connect.proofs.TransferProofs.{puts_frames}
use Rattle.fj_connect.proofs.laws.frames_are_put.Goals as goal

pub returns : goal.returns
returns c = puts_frames
