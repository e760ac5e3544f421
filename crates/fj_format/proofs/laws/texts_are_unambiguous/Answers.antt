use Rattle.fj_format.proofs.Decided.{same_format}
use Rattle.fj_format.proofs.laws.texts_are_unambiguous.Goals as goal

pub returns : goal.returns
returns c = same_format
