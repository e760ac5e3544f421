use Rattle.std.proofs.Common.{◌≡◌, ◌<◌, length, Some, IfSome, slice_get, refl, ap, sym, ◌∙◌, subst}
use Rattle.std.proofs.lemmas.Option.{slice_get_read}
use Rattle.fj_bay.specs.Halt.{halts}
use Rattle.fj_unit.specs.declared.unit.Outcome.{Outcome}
use Rattle.fj_unit.specs.Held.{task}
use Rattle.fj_unit.specs.Program.{id_in}
use Rattle.fj_unit.proofs.Kept.{waits_for_all, waits_alone}
use Rattle.fj_unit.proofs.waits.tell_one.Goals as goal

pub returns-then-is_halt-clause-some : goal.returns-then-is_halt-clause-some
returns-then-is_halt-clause-some c = λ n.
    let kept = c.find.new.kept.items in let at = c.in-Some.at in let o = c.index.result.now in
    let low : at < length kept = subst (λ r. IfSome r (λ k. k < length kept)) c.in-Some.is c.in_ok-at.ensures.within in
    let read = slice_get_read kept (length kept) at o refl low c.index.ensures in
    waits_for_all c.args.unit.now c.find.new.unit c.args.kept.now.items kept c.args.told.now.items c.args.id at o c.find.ensures.same read
    (subst (λ r. IfSome r (λ k. (x : Outcome) → slice_get kept k ≡ Some x → id_in (task x.job) ≡ c.args.id)) c.in-Some.is c.in_ok-at.ensures.found o read) n c.tell_all.new.unit c.tell_all.new.kept.items c.tell_all.new.told.items c.in_ok-tell_all.field-0 (c.in_ok-tell_all.ensures.ok n)
    (sym (ap halts c.condition_in-condition.ensures) ∙ sym c.is_halt.ensures ∙ c.if-is_halt.true)

pub returns-clause-some : goal.returns-clause-some
returns-clause-some c = λ n.
    let kept = c.find.new.kept.items in let at = c.in-Some.at in let o = c.index.result.now in
    let low : at < length kept = subst (λ r. IfSome r (λ k. k < length kept)) c.in-Some.is c.in_ok-at.ensures.within in
    let read = slice_get_read kept (length kept) at o refl low c.index.ensures in
    waits_alone c.args.unit.now c.find.new.unit c.args.kept.now.items kept c.args.told.now.items c.args.id at o c.find.ensures.same read
    (subst (λ r. IfSome r (λ k. (x : Outcome) → slice_get kept k ≡ Some x → id_in (task x.job) ≡ c.args.id)) c.in-Some.is c.in_ok-at.ensures.found o read) n c.tell_at.new.kept.items c.tell_at.new.told.items c.condition_in-condition.result c.in_ok-tell_at.ensures.left c.in_ok-tell_at.ensures.told
    c.condition_in-condition.ensures (sym (ap halts c.condition_in-condition.ensures) ∙ sym c.is_halt.ensures ∙ c.if-is_halt.false)
