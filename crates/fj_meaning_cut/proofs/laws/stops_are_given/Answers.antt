use Rattle.fj_meaning_cut.proofs.Given.{stops_are_given}
use Rattle.fj_meaning_cut.proofs.laws.stops_are_given.Goals as goal

pub returns : goal.returns
returns c = stops_are_given
