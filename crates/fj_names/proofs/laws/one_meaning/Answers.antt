use Rattle.fj_names.proofs.Unique.{once}
use Rattle.fj_names.proofs.laws.one_meaning.Goals as goal

pub returns : goal.returns
returns c = once c.texts_are_unambiguous.ensures
