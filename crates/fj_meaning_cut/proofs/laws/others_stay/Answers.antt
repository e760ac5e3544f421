use Rattle.fj_meaning_cut.proofs.Deck.{others_stay}
use Rattle.fj_meaning_cut.proofs.laws.others_stay.Goals as goal

pub returns : goal.returns
returns c = others_stay
