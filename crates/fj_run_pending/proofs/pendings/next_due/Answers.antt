use Rattle.std.proofs.Common.{◌≡◌, ◌<◌, ◌≤◌, length, get_or, Some, true, false, sym, ap, ◌∙◌, arith}
use Rattle.std.specs.Option.{option_map}
use Rattle.fj_run_pending.specs.declared.held.Held.{Held}
use Rattle.fj_run_pending.specs.Waits.{is_due}
use Rattle.fj_run_pending.proofs.Finding.{find_more, find_here, find_all}
use Rattle.fj_run_pending.proofs.pendings.next_due.Goals as goal

pub returns-then-awaits-clause-slot : goal.returns-then-awaits-clause-slot
returns-then-awaits-clause-slot c =
    let low : c.loop-at.at < length c.args.helds.now.items = omega (arith, c.args.helds.now.ok) in
    let is : is_due c.args.pick (get_or c.args.helds.now.items c.loop-at.at c.index-held.result.now) ≡ true = ap (is_due c.args.pick) (sym c.index-held.ensures) ∙ sym c.awaits.ensures ∙ c.if-awaits.true in
    λ none. ap (λ (h : Held). Some h.slot) c.index-held.ensures
    ∙ sym (ap (option_map (λ (h : Held). h.slot)) (find_here (is_due c.args.pick) c.args.helds.now.items c.loop-at.at c.index-held.result.now low is (c.loop-at.invariant none)))

pub returns-then-awaits-clause-passed : goal.returns-then-awaits-clause-passed
returns-then-awaits-clause-passed c = λ none. c.loop-at.invariant none

pub loop-at-preserved : goal.loop-at-preserved
loop-at-preserved c =
    let low : c.loop-at.at < length c.args.helds.now.items = omega (arith, c.args.helds.now.ok) in
    let is : is_due c.args.pick (get_or c.args.helds.now.items c.loop-at.at c.index-held.result.now) ≡ false = ap (is_due c.args.pick) (sym c.index-held.ensures) ∙ sym c.awaits.ensures ∙ c.if-awaits.false in
    λ none. find_more (is_due c.args.pick) c.args.helds.now.items c.loop-at.at c.index-held.result.now low is (c.loop-at.invariant none)

pub returns-clause-slot : goal.returns-clause-slot
returns-clause-slot c =
    let past : length c.args.helds.now.items ≤ c.loop-at.at = omega (arith, c.args.helds.now.ok) in
    λ none. sym (ap (option_map (λ (h : Held). h.slot)) (find_all (is_due c.args.pick) c.args.helds.now.items c.loop-at.at past (c.loop-at.invariant none)))
