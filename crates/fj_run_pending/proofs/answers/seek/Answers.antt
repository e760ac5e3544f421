use Rattle.std.proofs.Common.{◌≡◌, ◌<◌, true, length, get_or, subst, sym, ap, ◌∙◌, arith}
use Rattle.fj_run_pending.specs.declared.mark.Mark.{Mark}
use Rattle.fj_run_pending.specs.Answers.{waits_at}
use Rattle.fj_run_pending.specs.Tied.{mark_at}
use Rattle.fj_run_pending.proofs.Answering.{none_waits, none_between}
use Rattle.fj_run_pending.proofs.answers.seek.Goals as goal

pub first_waiting-at-requires : goal.first_waiting-at-requires
first_waiting-at-requires c =
    none_waits c.args.marks.now.items c.args.slot c.below.result c.args.helds.now.items c.requires.marked
    (λ k h low. subst (λ (m : Mark). (get_or c.args.helds.now.items k h).tag.0 < m.passed) c.mark_at-mark.ensures (c.below.ensures.low k h low))

pub returns-then-number-waiting-clause-none : goal.returns-then-number-waiting-clause-none
returns-then-number-waiting-clause-none c =
    let low : c.first_waiting-at.result < length c.args.helds.now.items = omega (arith, c.args.helds.now.ok, c.len.ensures, c.if-at-len.false) in
    let reached : c.mark_at-mark.result.reached ≡ (mark_at c.args.marks.now.items c.args.slot).reached = ap (λ (m : Mark). m.reached) c.mark_at-mark.ensures in
    let waits : waits_at c.args.slot c.index-waiting.result.now ≡ true = ap (waits_at c.args.slot) c.index-waiting.ensures ∙ c.first_waiting-at.ensures.found low c.index-waiting.result.now in
    none_between c.args.marks.now.items c.args.slot c.args.number c.args.helds.now.items c.requires.marked c.first_waiting-at.result c.index-waiting.result.now c.first_waiting-at.ensures.passed low
    (sym c.index-waiting.ensures) waits c.requires.rising (omega (arith, reached, c.if-mark-number-2.false)) c.if-number-waiting.true
