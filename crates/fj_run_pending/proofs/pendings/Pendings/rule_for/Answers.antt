use Rattle.std.proofs.Common.{ap, ◌∙◌}
use Rattle.fj_store.specs.Storage.{values_of}
use Rattle.fj_book.specs.Prohibitions.{prohibited}
use Rattle.fj_run_pending.specs.Plain.{holders}
use Rattle.fj_run_pending.proofs.Tying.{same_rule}
use Rattle.fj_run_pending.proofs.pendings.Pendings.rule_for.Goals as goal

pub returns : goal.returns
returns g c =
    c.check.ensures
    ∙ same_rule (values_of c.args.store.now) (g.N.Needs.need c.args.need.now) c.self.inside.book c.self.inside.helds.items c.self.invariant.same
    ∙ ap (λ hs. prohibited (values_of c.args.store.now) (holders hs) (g.N.Needs.need c.args.need.now)) c.self.view_is
