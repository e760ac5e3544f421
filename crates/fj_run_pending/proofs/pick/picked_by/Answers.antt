use Rattle.std.proofs.Common.{◌≡◌, pos, Some, true, false, sym, ap, ◌∙◌}
use Rattle.fj_bay.specs.Halt.{halts}
use Rattle.fj_meaning.specs.Telling.{waited_by}
use Rattle.fj_run_pending.specs.declared.held.Held.{Held}
use Rattle.fj_run_pending.specs.Plain.{entries, entry_of}
use Rattle.fj_run_pending.proofs.Waited.{absent_picked, other_unit_picked, halted_picked, one_picked, unit_picked}
use Rattle.fj_run_pending.proofs.pick.picked_by.Goals as goal

pub returns-in_default-clause-picked : goal.returns-in_default-clause-picked
returns-in_default-clause-picked c = absent_picked c.args.unit c.args.id c.args.helds.now.items c.in_default.ensures.none

pub returns-then-held-unit-clause-picked : goal.returns-then-held-unit-clause-picked
returns-then-held-unit-clause-picked c =
    let tag : c.index-held.result.now.tag.0 ≡ c.args.id = ap (λ (h : Held). h.tag.0) c.index-held.ensures ∙ c.in-Some.ensures.some.1 c.index-held.result.now in
    ap (λ n. waited_by (entries c.args.helds.now.items) (Some c.args.unit) (Some (pos n))) (sym tag)
    ∙ other_unit_picked c.args.unit c.in-Some.at c.index-held.result.now c.args.helds.now.items c.requires c.in-Some.ensures.some.0 (sym c.index-held.ensures) c.if-held-unit.true

pub returns-then-halts-clause-picked : goal.returns-then-halts-clause-picked
returns-then-halts-clause-picked c =
    let tag : c.index-held.result.now.tag.0 ≡ c.args.id = ap (λ (h : Held). h.tag.0) c.index-held.ensures ∙ c.in-Some.ensures.some.1 c.index-held.result.now in
    let halt : halts (entry_of c.index-held.result.now).condition ≡ true = ap halts (sym c.condition_of.ensures) ∙ sym c.halts.ensures ∙ c.if-halts.true in
    ap (λ n. waited_by (entries c.args.helds.now.items) (Some c.args.unit) (Some (pos n))) (sym tag)
    ∙ halted_picked c.args.unit c.in-Some.at c.index-held.result.now c.args.helds.now.items c.requires c.in-Some.ensures.some.0 (sym c.index-held.ensures) halt c.if-held-unit.false

pub returns-clause-picked : goal.returns-clause-picked
returns-clause-picked c =
    let tag : c.index-held.result.now.tag.0 ≡ c.args.id = ap (λ (h : Held). h.tag.0) c.index-held.ensures ∙ c.in-Some.ensures.some.1 c.index-held.result.now in
    let halt : halts (entry_of c.index-held.result.now).condition ≡ false = ap halts (sym c.condition_of.ensures) ∙ sym c.halts.ensures ∙ c.if-halts.false in
    ap (λ n. waited_by (entries c.args.helds.now.items) (Some c.args.unit) (Some (pos n))) (sym tag)
    ∙ one_picked c.args.unit c.in-Some.at c.index-held.result.now c.args.helds.now.items c.requires c.in-Some.ensures.some.0 (sym c.index-held.ensures) halt c.if-held-unit.false

pub returns-then-halts-clause-wide : goal.returns-then-halts-clause-wide
returns-then-halts-clause-wide c = unit_picked c.args.unit c.args.helds.now.items
