use Rattle.fj_meaning_turns.specs.Laws.{plain_bays, shown}
use Rattle.fj_meaning_turns.proofs.Cutting.{each_entry}
use Rattle.fj_meaning_turns.proofs.laws.entries_stand.Goals as goal

pub returns : goal.returns
returns c = λ s. each_entry plain_bays (shown s)
