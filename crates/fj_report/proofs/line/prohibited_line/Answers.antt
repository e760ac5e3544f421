use Rattle.std.proofs.Common.{codes}
use Rattle.std.proofs.lemmas.Result.{on_ok_weaker}
use Rattle.fj_report.specs.Lines.{status_text}
use Rattle.fj_report.proofs.Joins.{five}
use Rattle.fj_report.proofs.line.prohibited_line.Goals as goal

pub returns-clause-ok : goal.returns-clause-ok
unfolding status_text
returns-clause-ok c = on_ok_weaker c.push_pieces.result (λ e. cc (e, five (codes "= prohibited at ") c.as_bytes.result.now (codes " by ") c.rule_text.result.now (codes "\n"))) c.push_pieces.ensures.ok
