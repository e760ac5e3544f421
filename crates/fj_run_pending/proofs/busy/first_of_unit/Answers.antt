use Rattle.std.proofs.Common.{◌<◌, get_or, subst, sym, ◌∙◌}
use Rattle.fj_run_pending.proofs.Idle.{idle_absent, idle_found, low_absent}
use Rattle.fj_run_pending.proofs.busy.first_of_unit.Goals as goal

pub returns-in_default : goal.returns-in_default
returns-in_default c = sym (idle_found c.args.unit c.args.helds.now.items (idle_absent c.args.busy.now.items c.args.unit c.args.helds.now.items c.requires.busy (sym c.first_of.ensures ∙ c.in_default.is)))

pub first_from-requires : goal.first_from-requires
first_from-requires c =
    let hs = c.args.helds.now.items in
    low_absent c.args.busy.now.items c.args.unit c.in-Some.first hs c.below.result c.requires.busy (sym c.first_of.ensures ∙ c.in-Some.is) (λ k h lt. subst (λ t. (get_or hs k h).tag.0 < t) c.from.ensures (c.below.ensures.low k h lt))
