use Rattle.fj_meaning_turns.specs.Laws.{plain_bays, shown}
use Rattle.fj_meaning_looks.proofs.Putting.{marks_go_on}
use Rattle.fj_meaning_looks.proofs.laws.looks_are_put.Goals as goal

pub returns : goal.returns
returns c = λ s looks. marks_go_on plain_bays (shown s) looks
