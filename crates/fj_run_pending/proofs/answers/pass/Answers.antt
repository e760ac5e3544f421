use Rattle.std.proofs.Common.{◌<◌, All, length, get_or, subst, sym, ap, ◌∙◌}
use Rattle.std.proofs.lemmas.List.{length-set}
use Rattle.fj_run_pending.specs.declared.mark.Mark.{Mark}
use Rattle.fj_run_pending.specs.Tied.{IsMarked}
use Rattle.fj_run_pending.proofs.Answering.{none_waits, passed_marks}
use Rattle.fj_run_pending.proofs.answers.pass.Goals as goal

pub first_waiting-at-requires : goal.first_waiting-at-requires
first_waiting-at-requires c =
    none_waits c.args.marks.now.items c.args.slot c.below.result c.args.helds.now.items c.requires.marked
    (λ k h low. subst (λ (m : Mark). (get_or c.args.helds.now.items k h).tag.0 < m.passed) c.mark_at-mark.ensures (c.below.ensures.low k h low))

pub returns-clause-marked : goal.returns-clause-marked
returns-clause-marked c =
    subst (λ ms. All (IsMarked ms) c.args.helds.now.items) (sym c.put_mark.ensures)
    (passed_marks c.args.marks.now.items c.args.slot _ c.first_waiting-at.result c.args.helds.now.items (ap (λ (m : Mark). m.reached) c.mark_at-mark.ensures) (ap (λ (m : Mark). m.most) c.mark_at-mark.ensures)
    c.first_waiting-at.ensures.passed c.id_at-passed.ensures c.requires.marked)

pub returns-clause-slots : goal.returns-clause-slots
returns-clause-slots c = ap length c.put_mark.ensures ∙ length-set c.args.marks.now.items c.args.slot _
