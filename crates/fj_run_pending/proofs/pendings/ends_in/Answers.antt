use Rattle.std.proofs.Common.{◌<◌, get_or, take, subst, sym, ap, ◌∙◌}
use Rattle.std.specs.List.{list_any}
use Rattle.fj_run_pending.specs.Waits.{is_cause}
use Rattle.fj_run_pending.proofs.Idle.{idle_absent, low_absent, none_causes, other_causes, others_cause}
use Rattle.fj_run_pending.proofs.pendings.ends_in.Goals as goal

pub returns-in-None : goal.returns-in-None
returns-in-None c = sym (ap (λ p. list_any (is_cause p c.args.unit) c.args.helds.now.items) c.in-None.is ∙ none_causes c.args.unit c.args.helds.now.items)

pub returns-then-told-unit : goal.returns-then-told-unit
returns-then-told-unit c =
    sym (ap (λ p. list_any (is_cause p c.args.unit) c.args.helds.now.items) c.in-OfUnit.is ∙ other_causes c.in-OfUnit.told c.args.unit c.args.helds.now.items c.if-told-unit.true)

pub returns-in-One : goal.returns-in-One
returns-in-One c = c.one_causes.ensures ∙ ap (λ p. list_any (is_cause p c.args.unit) c.args.helds.now.items) (sym c.in-One.is)

pub returns-in_default : goal.returns-in_default
returns-in_default c =
    let others = idle_absent c.args.busy.now.items c.args.unit c.args.helds.now.items c.requires.busy (sym c.first_of.ensures ∙ c.in_default.is) in
    sym (others_cause c.args.pick c.args.unit c.args.helds.now.items others)

pub any_causes-requires : goal.any_causes-requires
any_causes-requires c =
    let hs = c.args.helds.now.items in
    let others = low_absent c.args.busy.now.items c.args.unit c.in-Some.first hs c.below.result c.requires.busy (sym c.first_of.ensures ∙ c.in-Some.is) (λ k h lt. subst (λ t. (get_or hs k h).tag.0 < t) c.from.ensures (c.below.ensures.low k h lt)) in
    others_cause c.match-pick.pick c.args.unit (take c.below.result hs) others
