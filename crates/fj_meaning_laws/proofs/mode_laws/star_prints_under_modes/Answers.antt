use Rattle.fj_meaning_laws.proofs.Under.{star_prints}
use Rattle.fj_meaning_laws.proofs.mode_laws.star_prints_under_modes.Goals as goal

pub returns : goal.returns
returns c control variables s t is now formatted = star_prints control variables s t is now formatted
