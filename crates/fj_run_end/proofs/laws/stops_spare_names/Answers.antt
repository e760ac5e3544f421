use Rattle.fj_meaning_turns.specs.Laws.{plain_bays, shown}
use Rattle.fj_run_end.proofs.Ended.{each_stop_spares, plain_full}
use Rattle.fj_run_end.proofs.laws.stops_spare_names.Goals as goal

pub returns : goal.returns
returns c = λ s. each_stop_spares plain_bays (shown s) plain_full
