use Rattle.fj_meaning_turns.specs.Laws.{plain_bays, shown}
use Rattle.fj_meaning_looks.proofs.Meeting.{next_look_is_behind}
use Rattle.fj_meaning_looks.proofs.laws.looks_are_met_once.Goals as goal

pub returns : goal.returns
returns c = λ s looks. next_look_is_behind plain_bays (shown s) looks
