use Rattle.fj_transfer_laws.proofs.ListedBack.{group_back}
use Rattle.fj_transfer_laws.proofs.group_records_come_back.Goals as goal

pub returns : goal.returns
returns c = group_back
