use Rattle.fj_meaning_turns.specs.Laws.{plain_bays, shown}
use Rattle.fj_meaning_looks.proofs.Putting.{ends_are_whole}
use Rattle.fj_meaning_looks.proofs.laws.stretches_are_one.Goals as goal

pub returns : goal.returns
returns c = λ s looks. ends_are_whole plain_bays (shown s) looks
