use Rattle.fj_meaning_cut.proofs.Awaited.{stops_are_awaited}
use Rattle.fj_meaning_cut.proofs.laws.stops_are_awaited.Goals as goal

pub returns : goal.returns
returns c = stops_are_awaited
