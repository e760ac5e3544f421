use Rattle.std.proofs.Common.{◌<◌, length, sym, ap, ◌∙◌, arith}
use Rattle.fj_store.specs.Storage.{Storage}
use Rattle.fj_run_statements.proofs.InquiryLemmas.{pending_given, other_given}
use Rattle.fj_run_statements.proofs.inquiry.answer_none_pending.Goals as goal
use Rattle.fj_run_statements.proofs.inquiry.answer_none_pending.Goals.{then-asks_pending, else-asks_pending}

pub loop-wanted-preserved : goal.loop-wanted-preserved
loop-wanted-preserved c =
    let asked = c.as_slice-wanted-items.result.now in
    let old = c.loop-wanted.store in
    let so_far = c.loop-wanted.invariant in
    let low : c.loop-wanted.wanted-index < length asked = omega arith in
    elim c.if-asks_pending.branch [
      | then-asks_pending w ↦ (let put = w.store-is ∙ w.set.ensures in record {
        vars = pending_given c.args.variables.now old c.if-asks_pending.store asked c.loop-wanted.wanted-index _ _ low (sym c.asks_pending.ensures ∙ w.if-asks_pending.true) (so_far.kinds ∙ c.requires) put so_far.vars;
        kinds = ap (λ (s : Storage). s.kinds) put ∙ so_far.kinds;
      })
      | else-asks_pending w ↦ record {
        vars = other_given c.args.variables.now old c.if-asks_pending.store asked c.loop-wanted.wanted-index _ _ low (sym c.asks_pending.ensures ∙ w.if-asks_pending.false) w.store-is so_far.vars;
        kinds = ap (λ (s : Storage). s.kinds) w.store-is ∙ so_far.kinds;
      }
    ]
