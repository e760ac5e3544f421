use Rattle.std.proofs.Common.{ap, ◌∙◌}
use Rattle.fj_store.specs.Storage.{values_of}
use Rattle.fj_book.specs.Prohibitions.{prohibited}
use Rattle.fj_run_pending.specs.Plain.{holders}
use Rattle.fj_run_pending.proofs.Meeting.{same_need}
use Rattle.fj_run_pending.proofs.needs.check.Goals as goal

pub returns : goal.returns
returns c =
    λ unit_named asked. c.rule_for.ensures
    ∙ ap (prohibited (values_of c.args.store.now) (holders c.args.pendings.now)) (same_need c.args.variables.now (values_of c.args.store.now) c.args.named unit_named c.args.statement.now asked)
