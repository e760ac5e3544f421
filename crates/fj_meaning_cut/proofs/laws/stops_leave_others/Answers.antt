use Rattle.fj_meaning_cut.proofs.Stops.{stops_leave_others}
use Rattle.fj_meaning_cut.proofs.laws.stops_leave_others.Goals as goal

pub returns : goal.returns
returns c = stops_leave_others
