use Rattle.fj_meaning_turns.specs.Laws.{plain_bays, shown}
use Rattle.fj_run_end.proofs.Ended.{each_turn_holds}
use Rattle.fj_run_end.proofs.laws.turns_hold_units.Goals as goal

pub returns : goal.returns
returns c = λ s. each_turn_holds plain_bays (shown s)
