use Rattle.fj_modes.proofs.Reopening.{settled_is_consistent}
use Rattle.fj_modes.proofs.laws.settled_is_consistent.Goals as goal

pub returns : goal.returns
returns c = settled_is_consistent
