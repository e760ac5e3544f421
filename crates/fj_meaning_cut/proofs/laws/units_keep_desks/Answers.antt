use Rattle.fj_meaning_cut.proofs.Deck.{units_keep_desks}
use Rattle.fj_meaning_cut.proofs.laws.units_keep_desks.Goals as goal

pub returns : goal.returns
returns c = units_keep_desks
