use Rattle.fj_modes.proofs.Reopening.{changed_takes_or_keeps}
use Rattle.fj_modes.proofs.laws.changed_takes_or_keeps.Goals as goal

pub returns : goal.returns
returns c = changed_takes_or_keeps
