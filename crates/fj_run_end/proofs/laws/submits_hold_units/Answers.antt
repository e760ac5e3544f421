use Rattle.fj_meaning_turns.specs.Laws.{plain_bays, shown}
use Rattle.fj_run_end.proofs.Ended.{each_submit_holds}
use Rattle.fj_run_end.proofs.laws.submits_hold_units.Goals as goal

pub returns : goal.returns
returns c = λ s. each_submit_holds plain_bays (shown s)
