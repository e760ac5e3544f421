use Rattle.fj_meaning_turns.specs.Laws.{plain_bays, shown}
use Rattle.fj_meaning_turns.proofs.Before.{each_stands}
use Rattle.fj_meaning_turns.proofs.laws.runs_stand.Goals as goal

pub returns : goal.returns
returns c = λ s. each_stands plain_bays (shown s)
