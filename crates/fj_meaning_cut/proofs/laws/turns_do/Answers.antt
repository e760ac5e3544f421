use Rattle.fj_meaning_cut.proofs.Turns.{turns_do}
use Rattle.fj_meaning_cut.proofs.laws.turns_do.Goals as goal

pub returns : goal.returns
returns c = turns_do
