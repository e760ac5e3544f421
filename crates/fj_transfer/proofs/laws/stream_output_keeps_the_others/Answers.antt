use Rattle.fj_transfer.proofs.TransferProofs.{stream_keeps}
use Rattle.fj_transfer.proofs.laws.stream_output_keeps_the_others.Goals as goal

pub returns : goal.returns
returns c = stream_keeps
