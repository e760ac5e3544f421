use Rattle.std.proofs.Common.{codes}
use Rattle.std.proofs.lemmas.Result.{on_ok_weaker}
use Rattle.fj_report.specs.Lines.{status_text}
use Rattle.fj_report.proofs.Joins.{three}
use Rattle.fj_report.proofs.line.disk_fault_line.Goals as goal

pub returns-clause-ok : goal.returns-clause-ok
unfolding status_text
returns-clause-ok c = on_ok_weaker c.push_pieces.result (λ e. cc (e, three (codes "= disk fault at ") c.as_bytes.result.now (codes "\n"))) c.push_pieces.ensures.ok
