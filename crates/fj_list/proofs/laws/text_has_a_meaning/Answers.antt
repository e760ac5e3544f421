use Rattle.fj_list.proofs.Meaning.{has_meaning}
use Rattle.fj_list.proofs.laws.text_has_a_meaning.Goals as goal

pub returns : goal.returns
returns c = has_meaning
