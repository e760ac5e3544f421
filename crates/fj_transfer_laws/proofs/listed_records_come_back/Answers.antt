use Rattle.fj_transfer_laws.proofs.ListedBack.{listed_back}
use Rattle.fj_transfer_laws.proofs.listed_records_come_back.Goals as goal

pub returns : goal.returns
returns c = listed_back c.records_are_listed.ensures
