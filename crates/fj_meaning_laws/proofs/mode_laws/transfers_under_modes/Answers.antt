use Rattle.fj_meaning_laws.proofs.Under.{transfers_under}
use Rattle.fj_meaning_laws.proofs.mode_laws.transfers_under_modes.Goals as goal

pub returns : goal.returns
returns k control variables s t n u c is at fits fit begins = transfers_under control variables s t n u c is at fits fit begins
