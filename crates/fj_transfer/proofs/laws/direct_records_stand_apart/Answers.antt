use Rattle.fj_transfer.proofs.TransferProofs.{direct_apart}
use Rattle.fj_transfer.proofs.laws.direct_records_stand_apart.Goals as goal

pub returns : goal.returns
returns c = direct_apart
