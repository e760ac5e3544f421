use Rattle.fj_meaning_turns.specs.Laws.{plain_bays, shown}
use Rattle.fj_meaning_turns.proofs.Cutting.{cut_at_stop}
use Rattle.fj_meaning_turns.proofs.laws.stops_cut.Goals as goal

pub returns : goal.returns
returns c = λ s. cut_at_stop plain_bays (shown s)
