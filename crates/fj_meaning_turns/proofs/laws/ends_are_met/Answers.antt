use Rattle.fj_meaning_turns.specs.Laws.{plain_bays, shown}
use Rattle.fj_meaning_turns.proofs.Ended.{runs_end}
use Rattle.fj_meaning_turns.proofs.laws.ends_are_met.Goals as goal

pub returns : goal.returns
returns c = λ s. runs_end plain_bays (shown s)
