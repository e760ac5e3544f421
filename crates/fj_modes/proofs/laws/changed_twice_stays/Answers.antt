use Rattle.fj_modes.proofs.Reopening.{changed_twice_stays}
use Rattle.fj_modes.proofs.laws.changed_twice_stays.Goals as goal

pub returns : goal.returns
returns c = changed_twice_stays
