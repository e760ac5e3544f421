use Rattle.fj_internal.proofs.LawProofs.{reads_alike}
use Rattle.fj_internal.proofs.laws.reads_like_a_file.Goals as goal

pub returns : goal.returns
returns c = reads_alike
