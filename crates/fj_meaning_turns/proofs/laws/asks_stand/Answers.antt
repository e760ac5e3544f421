use Rattle.fj_meaning_turns.specs.Laws.{plain_bays, shown}
use Rattle.fj_meaning_turns.proofs.Before.{each_asks}
use Rattle.fj_meaning_turns.proofs.laws.asks_stand.Goals as goal

pub returns : goal.returns
returns c = λ s. each_asks plain_bays (shown s)
