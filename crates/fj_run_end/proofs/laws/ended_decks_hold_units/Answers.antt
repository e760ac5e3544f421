use Rattle.fj_meaning_turns.specs.Laws.{plain_bays, shown}
use Rattle.fj_run_end.proofs.Ended.{ends_with_units}
use Rattle.fj_run_end.proofs.laws.ended_decks_hold_units.Goals as goal

pub returns : goal.returns
returns c = λ s. ends_with_units plain_bays (shown s)
