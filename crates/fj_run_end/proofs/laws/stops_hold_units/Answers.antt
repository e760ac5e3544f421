use Rattle.fj_meaning_turns.specs.Laws.{plain_bays, shown}
use Rattle.fj_run_end.proofs.Ended.{each_stop_holds}
use Rattle.fj_run_end.proofs.laws.stops_hold_units.Goals as goal

pub returns : goal.returns
returns c = λ s. each_stop_holds plain_bays (shown s)
