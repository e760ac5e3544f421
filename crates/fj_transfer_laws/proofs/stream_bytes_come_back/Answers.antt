use Rattle.fj_transfer_laws.proofs.UnformattedBack.{stream_back}
use Rattle.fj_transfer_laws.proofs.stream_bytes_come_back.Goals as goal

pub returns : goal.returns
returns c = stream_back
