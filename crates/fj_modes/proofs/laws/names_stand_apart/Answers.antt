use Rattle.fj_modes.proofs.FileNameLemmas.{names_apart}
use Rattle.fj_modes.proofs.laws.names_stand_apart.Goals as goal

pub returns : goal.returns
returns c = names_apart
