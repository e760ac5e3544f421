use Rattle.std.proofs.Common.{refl}
use Rattle.fj_seqrec.proofs.LineLemmas.{lines_first}
use Rattle.fj_seqrec.proofs.laws.lines_begin_with_the_first.Goals as goal

pub returns : goal.returns
returns c = (refl, lines_first)
