use Rattle.std.proofs.Common.{◌∙◌, ap, w32, w64}
use Rattle.std.specs.Fmt.{signed_decimal}
use Rattle.std.proofs.lemmas.Int.{to_z-of_z}
use Rattle.std.proofs.lemmas.Result.{on_ok_weaker}
use Rattle.fj_report.proofs.Joins.{traced}
use Rattle.fj_report.proofs.line.trace_line.Goals as goal

pub returns-clause-ok : goal.returns-clause-ok
returns-clause-ok c =
    on_ok_weaker c.push_pieces.result
    (λ e. e ∙ traced c.args.out.now c.as_bytes.result.now c.as_bytes-2.result.now c.as_bytes-3.result.now c.as_bytes-4.result.now
    c.args.stmt c.args.unit c.args.tag.0 c.args.code (c.as_bytes.ensures.value ∙ c.format.ensures.text)
    (c.as_bytes-2.ensures.value ∙ c.format-2.ensures.text ∙ ap signed_decimal (to_z-of_z w64 c.args.unit c.ranges.unit))
    (c.as_bytes-3.ensures.value ∙ c.format-3.ensures.text)
    (c.as_bytes-4.ensures.value ∙ c.format-4.ensures.text ∙ ap signed_decimal (to_z-of_z w32 c.args.code c.ranges.code)))
    c.push_pieces.ensures.ok
