use Rattle.fj_input_laws.proofs.ReadProofs as laws
use Rattle.fj_input_laws.proofs.input_is_exact.Goals as goal

pub returns : goal.returns
returns c = laws.input_is_exact
