use Rattle.fj_list.proofs.Understanding.{one_meaning}
use Rattle.fj_list.proofs.laws.text_has_one_meaning.Goals as goal

pub returns : goal.returns
returns c = one_meaning
