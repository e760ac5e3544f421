use Rattle.fj_meaning_turns.specs.Laws.{plain_bays, shown}
use Rattle.fj_meaning_looks.proofs.Entries.{each}
use Rattle.fj_meaning_looks.proofs.laws.stretches_go_on.Goals as goal

pub returns : goal.returns
returns c = λ s looks. each plain_bays (shown s) looks
