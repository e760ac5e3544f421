use Rattle.fj_input_laws.proofs.FittingProofs as laws
use Rattle.fj_input_laws.proofs.begins_exactly.Goals as goal

pub returns : goal.returns
returns c = laws.begins_exactly
