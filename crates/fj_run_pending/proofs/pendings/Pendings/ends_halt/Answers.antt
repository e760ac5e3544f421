use Rattle.std.proofs.Common.{sym, ap, ◌∙◌}
use Rattle.fj_meaning.specs.Telling.{tells_cause}
use Rattle.fj_run_pending.specs.Plain.{entries}
use Rattle.fj_run_pending.specs.Waits.{waited_of}
use Rattle.fj_run_pending.proofs.Waited.{cause_is}
use Rattle.fj_run_pending.proofs.pendings.Pendings.ends_halt.Goals as goal

pub returns : goal.returns
returns c =
    c.ends_in.ensures
    ∙ sym (cause_is c.picked-pick.result c.args.unit c.self.inside.helds.items (waited_of c.args.whose (entries c.self.inside.helds.items)) c.picked-pick.ensures.picked)
    ∙ ap (λ hs. tells_cause (waited_of c.args.whose (entries hs)) c.args.unit) c.self.view_is
