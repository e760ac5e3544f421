use Rattle.fj_span.proofs.ChangeLaws.{in_turn}
use Rattle.fj_span.proofs.laws.writes_in_turn_keep_what_was_to_stay.Goals as goal

pub returns : goal.returns
returns c = in_turn
