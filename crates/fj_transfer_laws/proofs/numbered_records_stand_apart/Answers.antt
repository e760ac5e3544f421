use Rattle.fj_transfer_laws.proofs.NumberedBack.{stand_apart}
use Rattle.fj_transfer_laws.proofs.numbered_records_stand_apart.Goals as goal

pub returns : goal.returns
returns c = stand_apart
