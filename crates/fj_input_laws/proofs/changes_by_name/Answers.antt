use Rattle.fj_input_laws.proofs.FittingProofs as laws
use Rattle.fj_input_laws.proofs.changes_by_name.Goals as goal

pub returns : goal.returns
returns c = laws.changes_by_name
