use Rattle.fj_transfer_laws.proofs.UnformattedBack.{sequential_back}
use Rattle.fj_transfer_laws.proofs.sequential_records_come_back.Goals as goal

pub returns : goal.returns
returns c = sequential_back
