use Rattle.fj_meaning_turns.specs.Laws.{plain_bays, shown}
use Rattle.fj_meaning_looks.proofs.Putting.{stretches_begin}
use Rattle.fj_meaning_looks.proofs.laws.stretches_begin.Goals as goal

pub returns : goal.returns
returns c = λ s. stretches_begin plain_bays (shown s)
