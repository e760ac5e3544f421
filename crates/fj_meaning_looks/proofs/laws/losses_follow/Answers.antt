use Rattle.fj_meaning_turns.specs.Laws.{plain_bays, shown}
use Rattle.fj_meaning_looks.proofs.Losing.{losses_follow}
use Rattle.fj_meaning_looks.proofs.laws.losses_follow.Goals as goal

pub returns : goal.returns
returns c = λ s looks. losses_follow plain_bays (shown s) looks
