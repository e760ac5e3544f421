use Rattle.fj_meaning_turns.specs.Laws.{plain_bays, shown}
use Rattle.fj_meaning_turns.proofs.Decks.{runner_is_plain}
use Rattle.fj_meaning_turns.proofs.laws.runners_are_plain.Goals as goal

pub returns : goal.returns
returns c = λ s. runner_is_plain plain_bays (shown s)
