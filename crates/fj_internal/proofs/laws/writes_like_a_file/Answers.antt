use Rattle.fj_internal.proofs.LawProofs.{writes_alike}
use Rattle.fj_internal.proofs.laws.writes_like_a_file.Goals as goal

pub returns : goal.returns
returns c = writes_alike
