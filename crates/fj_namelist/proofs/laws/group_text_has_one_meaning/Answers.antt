use Rattle.fj_namelist.proofs.Meaning.{one_meaning}
use Rattle.fj_namelist.proofs.laws.group_text_has_one_meaning.Goals as goal

pub returns : goal.returns
returns c = one_meaning
