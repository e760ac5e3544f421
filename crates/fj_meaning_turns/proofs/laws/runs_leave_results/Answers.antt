use Rattle.fj_meaning_turns.specs.Laws.{plain_bays, shown}
use Rattle.fj_meaning_turns.proofs.Meant.{leaves_result}
use Rattle.fj_meaning_turns.proofs.laws.runs_leave_results.Goals as goal

pub returns : goal.returns
returns c = λ s. leaves_result plain_bays (shown s)
