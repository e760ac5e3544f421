use Rattle.fj_meaning_turns.specs.Laws.{plain_bays, shown}
use Rattle.fj_meaning_looks.proofs.Worlds.{stretches_leave_results}
use Rattle.fj_meaning_looks.proofs.laws.stretches_leave_results.Goals as goal

pub returns : goal.returns
returns c = λ s looks. stretches_leave_results plain_bays (shown s) looks
