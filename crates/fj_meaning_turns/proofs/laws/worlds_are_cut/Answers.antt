use Rattle.fj_meaning_turns.specs.Laws.{plain_bays, shown}
use Rattle.fj_meaning_turns.proofs.Cutting.{world_is_cut}
use Rattle.fj_meaning_turns.proofs.laws.worlds_are_cut.Goals as goal

pub returns : goal.returns
returns c = λ s. world_is_cut plain_bays (shown s)
