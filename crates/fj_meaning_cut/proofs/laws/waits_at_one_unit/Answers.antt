use Rattle.fj_meaning_cut.proofs.OneUnit as units
use Rattle.fj_meaning_cut.proofs.laws.waits_at_one_unit.Goals as goal

pub returns : goal.returns
returns c = units.waits_at_one_unit
