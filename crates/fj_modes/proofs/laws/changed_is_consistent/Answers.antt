use Rattle.fj_modes.proofs.Reopening.{changed_is_consistent}
use Rattle.fj_modes.proofs.laws.changed_is_consistent.Goals as goal

pub returns : goal.returns
returns c = changed_is_consistent
