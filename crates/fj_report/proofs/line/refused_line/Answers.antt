use Rattle.std.proofs.Common.{codes}
use Rattle.std.proofs.lemmas.Result.{on_ok_weaker}
use Rattle.fj_report.specs.Lines.{status_text}
use Rattle.fj_report.proofs.Joins.{six}
use Rattle.fj_report.proofs.line.refused_line.Goals as goal

pub returns-clause-ok : goal.returns-clause-ok
unfolding status_text
returns-clause-ok c = on_ok_weaker c.push_pieces.result (λ e. cc (e, six (codes "= refused at ") c.as_bytes.result.now (codes ": ") c.reason_words.result.now c.reason_number.result.now (codes "\n"))) c.push_pieces.ensures.ok
