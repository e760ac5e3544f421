use Rattle.fj_meaning_turns.specs.Laws.{plain_bays, shown}
use Rattle.fj_meaning_turns.proofs.Before.{each_awaited}
use Rattle.fj_meaning_turns.proofs.laws.jobs_are_awaited.Goals as goal

pub returns : goal.returns
returns c = λ s. each_awaited plain_bays (shown s)
