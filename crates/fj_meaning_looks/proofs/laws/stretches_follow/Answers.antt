use Rattle.fj_meaning_turns.specs.Laws.{plain_bays, shown}
use Rattle.fj_meaning_looks.proofs.Putting.{asks_follow}
use Rattle.fj_meaning_looks.proofs.laws.stretches_follow.Goals as goal

pub returns : goal.returns
returns c = λ s looks. asks_follow plain_bays (shown s) looks
