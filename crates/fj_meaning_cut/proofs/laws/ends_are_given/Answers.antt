use Rattle.fj_meaning_cut.proofs.Given.{ends_are_given}
use Rattle.fj_meaning_cut.proofs.laws.ends_are_given.Goals as goal

pub returns : goal.returns
returns c = ends_are_given
