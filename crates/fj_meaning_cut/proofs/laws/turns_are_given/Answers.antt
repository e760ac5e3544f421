use Rattle.fj_meaning_cut.proofs.Given.{turns_are_given}
use Rattle.fj_meaning_cut.proofs.laws.turns_are_given.Goals as goal

pub returns : goal.returns
returns c = turns_are_given
