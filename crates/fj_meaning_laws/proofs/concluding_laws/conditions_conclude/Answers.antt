use Rattle.fj_meaning_laws.proofs.Concluded.{conclude}
use Rattle.fj_meaning_laws.proofs.concluding_laws.conditions_conclude.Goals as goal

pub returns : goal.returns
returns c variables st s allowed = conclude variables st s allowed
