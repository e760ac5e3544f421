use Rattle.std.proofs.Common.{pos, ◌<ℤ◌, subst, sym, ap, ◌∙◌, rules}
use Rattle.fj_run_pending.specs.Plain.{entries}
use Rattle.fj_run_pending.specs.Waits.{waited_of, widest, IsWide}
use Rattle.fj_run_pending.proofs.Waited.{negative_picked, none_picked, unit_picked, all_picked}
use Rattle.fj_run_pending.proofs.pick.picked.Goals as goal

pub returns-in-None-clause-picked : goal.returns-in-None-clause-picked
returns-in-None-clause-picked c = ap (λ w. waited_of w (entries c.args.helds.now.items)) c.in-None.is ∙ none_picked c.args.helds.now.items

pub returns-in-OfUnit-clause-picked : goal.returns-in-OfUnit-clause-picked
returns-in-OfUnit-clause-picked c = ap (λ w. waited_of w (entries c.args.helds.now.items)) c.in-OfUnit.is ∙ unit_picked c.in-OfUnit.unit c.args.helds.now.items

pub returns-in-All-clause-picked : goal.returns-in-All-clause-picked
returns-in-All-clause-picked c = ap (λ w. waited_of w (entries c.args.helds.now.items)) c.in-All.is ∙ all_picked c.args.helds.now.items

pub returns-then-id-lt0-clause-picked : goal.returns-then-id-lt0-clause-picked
returns-then-id-lt0-clause-picked c =
    let low : c.in-OfId.id <ℤ pos 0 = search rules in
    ap (λ w. waited_of w (entries c.args.helds.now.items)) c.in-OfId.is ∙ negative_picked c.in-OfId.unit c.in-OfId.id c.args.helds.now.items low

pub returns-in-OfUnit-clause-wide : goal.returns-in-OfUnit-clause-wide
returns-in-OfUnit-clause-wide c = ap (λ w. waited_of (widest w) (entries c.args.helds.now.items)) c.in-OfUnit.is ∙ unit_picked c.in-OfUnit.unit c.args.helds.now.items

pub returns-in-All-clause-wide : goal.returns-in-All-clause-wide
returns-in-All-clause-wide c = ap (λ w. waited_of (widest w) (entries c.args.helds.now.items)) c.in-All.is ∙ all_picked c.args.helds.now.items

pub returns-else-id-lt0-clause-wide : goal.returns-else-id-lt0-clause-wide
returns-else-id-lt0-clause-wide c =
    subst (λ w. IsWide (waited_of (widest w) (entries c.args.helds.now.items)) c.picked_by.result c.args.helds.now.items) (sym c.in-OfId.is) c.picked_by.ensures.wide
