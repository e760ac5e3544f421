use Rattle.fj_transfer_laws.proofs.Cases.{RecordsAre, records_are}
use Rattle.fj_transfer_laws.proofs.WrittenBack.{records_back}
use Rattle.fj_transfer_laws.proofs.formatted_records_come_back.Goals as goal

pub returns : goal.returns
returns c = let _cases : RecordsAre = records_are in records_back
