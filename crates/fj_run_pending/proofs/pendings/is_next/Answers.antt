use Rattle.std.proofs.Common.{◌≡◌, ◌≤◌, ◌-◌, get_or, subst, ap, rules, arith}
use Rattle.std.proofs.lemmas.Bool.Decides.{nat_tests}
use Rattle.fj_run_pending.specs.declared.held.Held.{Held}
use Rattle.fj_run_pending.specs.declared.mark.Mark.{Mark}
use Rattle.fj_run_pending.specs.Tied.{mark_at}
use Rattle.fj_run_pending.proofs.Ids.{last_above}
use Rattle.fj_run_pending.proofs.pendings.is_next.Goals.{else-entered-most-via-then-entered-most+else-not-are_lower, else-entered-most-via-else-entered-most}
use Rattle.fj_run_pending.proofs.pendings.is_next.Goals as goal

pub returns-in-Some-clause-next : goal.returns-in-Some-clause-next
returns-in-Some-clause-next c = λ less. record {
  id = λ k d within.
      let most : (get_or c.args.helds.now.items k d).tag.0 ≤ c.in-Some.last.now.tag.0 = last_above (λ (h : Held). h.tag.0) c.args.helds.now.items (c.args.helds.now.len - 1) k c.in-Some.last.now d c.requires.ascending c.in-Some.ensures.lookup (omega (arith, within, c.args.helds.now.ok)) within in
      grind (arith, nat_tests);
  number = λ k d within same. elim c.else-entered-most.branch [
    | else-entered-most-via-then-entered-most+else-not-are_lower w ↦ w.are_lower.ensures.lower (search rules) k d within same
    | else-entered-most-via-else-entered-most w ↦
        let h = get_or c.args.helds.now.items k d in
        let most : c.mark_at-most.result.most ≡ (mark_at c.args.marks.now.items c.args.entered.now.slot).most = ap (λ (m : Mark). m.most) c.mark_at-most.ensures in
        let below : h.number ≤ (mark_at c.args.marks.now.items c.args.entered.now.slot).most = subst (λ n. h.number ≤ (mark_at c.args.marks.now.items n).most) same (c.requires.marked k d within).most in
        omega (arith, most, below, w.if-entered-most.false)
  ];
  slot = omega (arith, c.requires.slots, c.if-entered-len.false, c.len.ensures);
}
