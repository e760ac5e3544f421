use Rattle.fj_meaning_looks.proofs.Meeting.{looks_are_met}
use Rattle.fj_meaning_looks.proofs.laws.looks_are_met.Goals as goal

pub returns : goal.returns
returns c = looks_are_met
