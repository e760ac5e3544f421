use Rattle.fj_meaning_turns.specs.Laws.{plain_bays, shown}
use Rattle.fj_meaning_looks.proofs.Worlds.{worlds_go_on, worlds_end}
use Rattle.fj_meaning_looks.proofs.laws.worlds_are_served.Goals as goal

pub returns : goal.returns
returns c = λ s looks. (worlds_go_on plain_bays (shown s) looks, worlds_end plain_bays (shown s) looks)
