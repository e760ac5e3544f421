use Rattle.std.proofs.Common.{◌≡◌, ◌<◌, None, get_or, take, subst, sym, ap, ◌∙◌}
use Rattle.std.specs.Option.{option_map}
use Rattle.std.specs.List.{find}
use Rattle.fj_run_pending.specs.declared.held.Held.{Held}
use Rattle.fj_run_pending.specs.declared.pick.Pick.TheVariants.{OfUnit}
use Rattle.fj_run_pending.specs.Waits.{is_due}
use Rattle.fj_run_pending.proofs.Idle.{idle_absent, low_absent, others_due, at_later}
use Rattle.fj_run_pending.proofs.pendings.unit_due.Goals as goal
use Rattle.fj_run_pending.proofs.pendings.unit_due.Goals.{After-next_due}

pub returns-in_default-clause-slot : goal.returns-in_default-clause-slot
returns-in_default-clause-slot c =
    λ none. sym (ap (option_map (λ (h : Held). h.slot)) (others_due c.args.unit c.args.helds.now.items (idle_absent c.args.busy.now.items c.args.unit c.args.helds.now.items c.requires.busy (sym c.first_of.ensures ∙ c.in_default.is))))

-- none is due before the place from which they are looked at
abbrev none_before : (c : After-next_due) → find (is_due (OfUnit c.args.unit)) (take c.args.from c.args.helds.now.items) ≡ None → find (is_due (OfUnit c.args.unit)) (take c.max.result c.args.helds.now.items) ≡ None
none_before c none =
    let hs = c.args.helds.now.items in
    let u = c.args.unit in
    let start = c.below-start.result in
    let others = low_absent c.args.busy.now.items u c.in-Some.first hs start c.requires.busy (sym c.first_of.ensures ∙ c.in-Some.is) (λ k h lt. subst (λ t. (get_or hs k h).tag.0 < t) c.from.ensures (c.below-start.ensures.low k h lt)) in
    subst (λ n. find (is_due (OfUnit u)) (take n hs) ≡ None) (sym c.max.ensures) (at_later (λ n. find (is_due (OfUnit u)) (take n hs) ≡ None) start c.args.from (others_due u (take start hs) others) none)

pub returns-clause-slot : goal.returns-clause-slot
returns-clause-slot c = λ none. c.next_due.ensures.slot (none_before c none)

pub returns-clause-passed : goal.returns-clause-passed
returns-clause-passed c = λ none. c.next_due.ensures.passed (none_before c none)
