use Rattle.fj_meaning.proofs.Cutting.{cut_is}
use Rattle.fj_meaning.proofs.cut_laws.cut_is_before.Goals as goal

pub returns : goal.returns
returns c variables index sts s = cut_is variables index sts s
