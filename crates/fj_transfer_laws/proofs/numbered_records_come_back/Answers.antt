use Rattle.fj_transfer_laws.proofs.NumberedBack.{read_again}
use Rattle.fj_transfer_laws.proofs.numbered_records_come_back.Goals as goal

pub returns : goal.returns
returns c = read_again
