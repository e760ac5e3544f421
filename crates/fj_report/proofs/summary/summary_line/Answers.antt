use Rattle.std.proofs.Common.{◌∙◌}
use Rattle.std.proofs.lemmas.Result.{on_ok_weaker}
use Rattle.fj_report.proofs.Joins.{summed}
use Rattle.fj_report.proofs.summary.summary_line.Goals as goal

pub returns-clause-ok : goal.returns-clause-ok
returns-clause-ok c =
    on_ok_weaker c.push_pieces.result
    (λ e. e ∙ summed c.args.out.now c.args.summary.now
    (c.as_bytes.ensures.value ∙ c.format.ensures.text) (c.as_bytes-2.ensures.value ∙ c.format-2.ensures.text)
    (c.as_bytes-3.ensures.value ∙ c.format-3.ensures.text) (c.as_bytes-4.ensures.value ∙ c.format-4.ensures.text)
    (c.as_bytes-5.ensures.value ∙ c.format-5.ensures.text) (c.as_bytes-6.ensures.value ∙ c.format-6.ensures.text)
    (c.as_bytes-7.ensures.value ∙ c.format-7.ensures.text))
    c.push_pieces.ensures.ok
