use Rattle.fj_input_laws.proofs.FieldProofs as laws
use Rattle.fj_input_laws.proofs.fields_are_told.Goals as goal

pub returns : goal.returns
returns c = laws.fields_are_told
