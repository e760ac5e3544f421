use Rattle.std.proofs.Common.{◌∙◌, ap, w64}
use Rattle.std.specs.Fmt.{signed_decimal}
use Rattle.std.proofs.lemmas.Int.{to_z-of_z}
use Rattle.std.proofs.lemmas.Result.{on_ok_weaker}
use Rattle.fj_report.proofs.Joins.{looked}
use Rattle.fj_report.proofs.line.look_line.Goals as goal

pub returns-clause-ok : goal.returns-clause-ok
returns-clause-ok c =
    on_ok_weaker c.push_pieces.result
    (λ e. e ∙ looked c.args.out.now c.as_bytes.result.now c.as_bytes-2.result.now c.letter_of.result.now c.as_bytes-3.result.now
    c.args.stmt c.args.unit c.args.pending c.args.done (c.as_bytes.ensures.value ∙ c.format.ensures.text)
    (c.as_bytes-2.ensures.value ∙ c.format-2.ensures.text ∙ ap signed_decimal (to_z-of_z w64 c.args.unit c.ranges.unit))
    c.letter_of.ensures (c.as_bytes-3.ensures.value ∙ c.format-3.ensures.text))
    c.push_pieces.ensures.ok
