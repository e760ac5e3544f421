use Rattle.fj_transfer_laws.proofs.Reached.{are_reached}
use Rattle.fj_transfer_laws.proofs.records_are_reached.Goals as goal

pub returns : goal.returns
returns c = are_reached
