use Rattle.fj_seqrec.specs.Lines.{last_line_start}
use Rattle.fj_seqrec.proofs.LastLine.{is_start, only_start, lines_last}
use Rattle.fj_seqrec.proofs.laws.lines_end_with_the_last.Goals as goal

pub returns : goal.returns
returns c = λ bytes some. (is_start bytes some, only_start bytes, lines_last bytes (last_line_start bytes) (is_start bytes some))
