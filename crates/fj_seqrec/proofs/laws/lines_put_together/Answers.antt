use Rattle.fj_seqrec.proofs.LineLemmas.{lines_stand, only_lines}
use Rattle.fj_seqrec.proofs.laws.lines_put_together.Goals as goal

pub returns : goal.returns
returns c = (lines_stand, only_lines)
