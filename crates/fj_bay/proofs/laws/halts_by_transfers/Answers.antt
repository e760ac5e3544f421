use Rattle.fj_bay.proofs.BayProofs.{halts_by_transfers}
use Rattle.fj_bay.proofs.laws.halts_by_transfers.Goals as goal

pub returns : goal.returns
returns c = halts_by_transfers
