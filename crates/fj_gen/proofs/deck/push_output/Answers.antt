use Rattle.std.proofs.Common.{◌∙◌}
use Rattle.std.proofs.lemmas.Result.{on_ok_weaker}
use Rattle.fj_gen.proofs.Steps.{output_is}
use Rattle.fj_gen.proofs.deck.push_output.Goals as goal

pub returns : goal.returns
returns c =
    on_ok_weaker c.push_all-9.result
    (λ e. output_is c.args.text.now c.args.element c.args.unit c.args.value
    c.in_ok-push_all.ensures.ok c.in_ok-push_all-2.ensures.ok c.in_ok-push_all-3.ensures.ok c.in_ok-push_all-4.ensures.ok
    c.in_ok-push_all-5.ensures.ok c.in_ok-push_all-6.ensures.ok c.in_ok-push_all-7.ensures.ok c.in_ok-push_all-8.ensures.ok e
    (c.as_bytes.ensures.value ∙ c.format.ensures.text) (c.as_bytes-2.ensures.value ∙ c.format-2.ensures.text)
    (c.as_bytes-3.ensures.value ∙ c.format-3.ensures.text) (c.as_bytes-4.ensures.value ∙ c.format-4.ensures.text))
    c.push_all-9.ensures.ok
