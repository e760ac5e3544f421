use Rattle.std.proofs.Common.{◌≡◌, sym, ap, ◌∙◌}
use Rattle.std.specs.Prelude.{is_some, true, false}
use Rattle.std.specs.Option.{option_map}
use Rattle.std.specs.List.{find}
use Rattle.fj_run_pending.specs.declared.pick.Pick.TheVariants.{One}
use Rattle.fj_run_pending.specs.Waits.{is_due}
use Rattle.fj_run_pending.specs.declared.held.Held.{Held}
use Rattle.fj_run_pending.proofs.Waited.{absent_due, answered_due, waiting_due}
use Rattle.fj_run_pending.proofs.pendings.one_due.Goals as goal

pub returns-in_default-clause-slot : goal.returns-in_default-clause-slot
returns-in_default-clause-slot c = sym (ap (option_map (λ (h : Held). h.slot)) (ap (λ t. find (is_due (One t)) c.args.helds.now.items) (sym c.from.ensures) ∙ absent_due c.from.result c.args.helds.now.items c.in_default.ensures.none))

pub returns-then-is_some-clause-slot : goal.returns-then-is_some-clause-slot
returns-then-is_some-clause-slot c =
    let tag : c.index-held.result.now.tag.0 ≡ c.args.id = ap (λ (h : Held). h.tag.0) c.index-held.ensures ∙ c.in-Some.ensures.some.1 c.index-held.result.now ∙ c.from.ensures in
    let has : is_some c.index-held.result.now.answer ≡ true = sym c.is_some.ensures ∙ c.if-is_some.true in
    sym (ap (option_map (λ (h : Held). h.slot)) (answered_due c.args.id c.args.helds.now.items c.in-Some.at c.index-held.result.now c.requires c.in-Some.ensures.some.0 (sym c.index-held.ensures) tag has))

pub returns-clause-slot : goal.returns-clause-slot
returns-clause-slot c =
    let tag : c.index-held.result.now.tag.0 ≡ c.args.id = ap (λ (h : Held). h.tag.0) c.index-held.ensures ∙ c.in-Some.ensures.some.1 c.index-held.result.now ∙ c.from.ensures in
    let has : is_some c.index-held.result.now.answer ≡ false = sym c.is_some.ensures ∙ c.if-is_some.false in
    sym (ap (option_map (λ (h : Held). h.slot)) (waiting_due c.args.id c.args.helds.now.items c.in-Some.at c.index-held.result.now c.requires c.in-Some.ensures.some.0 (sym c.index-held.ensures) tag has))
