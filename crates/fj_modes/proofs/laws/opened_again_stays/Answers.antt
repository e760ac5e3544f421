use Rattle.fj_modes.proofs.Reopening.{opened_again_stays}
use Rattle.fj_modes.proofs.laws.opened_again_stays.Goals as goal

pub returns : goal.returns
returns c = opened_again_stays
