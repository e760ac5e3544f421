use Rattle.fj_transfer_laws.proofs.UnformattedBack.{direct_back}
use Rattle.fj_transfer_laws.proofs.direct_records_come_back.Goals as goal

pub returns : goal.returns
returns c = direct_back
