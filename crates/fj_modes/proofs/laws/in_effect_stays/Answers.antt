use Rattle.fj_modes.proofs.Reopening.{in_effect_stays}
use Rattle.fj_modes.proofs.laws.in_effect_stays.Goals as goal

pub returns : goal.returns
returns c = in_effect_stays
