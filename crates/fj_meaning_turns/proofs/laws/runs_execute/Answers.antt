use Rattle.fj_meaning_turns.specs.Laws.{plain_bays, shown}
use Rattle.fj_meaning_turns.proofs.Finishing.{executes_decks}
use Rattle.fj_meaning_turns.proofs.laws.runs_execute.Goals as goal

pub returns : goal.returns
returns c = λ s. executes_decks plain_bays (shown s)
