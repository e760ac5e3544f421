use Rattle.fj_connect.proofs.TransferProofs.{reads}
use Rattle.fj_connect.proofs.laws.records_are_read_on.Goals as goal

pub returns : goal.returns
returns c = reads
