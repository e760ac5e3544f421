use Rattle.std.proofs.Common.{◌≡◌, sym, ap, ◌∙◌, subst, All}
use Rattle.std.specs.Prelude.{◌≢◌}
use Rattle.fj_run_pending.specs.declared.held.Held.{Held}
use Rattle.fj_run_pending.proofs.Idle.{one_causes, absent_causes}
use Rattle.fj_run_pending.proofs.pendings.one_causes.Goals as goal

pub returns-in-Some : goal.returns-in-Some
returns-in-Some c =
    let tag : c.index.result.now.tag.0 ≡ c.args.id = ap (λ (h : Held). h.tag.0) c.index.ensures ∙ c.in-Some.ensures.some.1 c.index.result.now ∙ c.from.ensures in
    c.causes.ensures ∙ one_causes c.args.id c.args.unit c.args.helds.now.items c.in-Some.at c.index.result.now c.requires c.in-Some.ensures.some.0 (sym c.index.ensures) tag

pub returns-in-None : goal.returns-in-None
returns-in-None c =
    sym (absent_causes c.args.id c.args.unit c.args.helds.now.items (subst (λ t. All (λ (h : Held). h.tag.0 ≢ t) c.args.helds.now.items) c.from.ensures c.in-None.ensures.none))
