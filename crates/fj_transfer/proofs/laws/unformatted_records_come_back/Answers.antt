use Rattle.fj_transfer.proofs.TransferProofs.{records_come_back}
use Rattle.fj_transfer.proofs.laws.unformatted_records_come_back.Goals as goal

pub returns : goal.returns
returns c = records_come_back
