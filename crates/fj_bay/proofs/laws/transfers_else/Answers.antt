use Rattle.fj_bay.proofs.BayProofs.{transfers_else}
use Rattle.fj_bay.proofs.laws.transfers_else.Goals as goal

pub returns : goal.returns
returns c = transfers_else
