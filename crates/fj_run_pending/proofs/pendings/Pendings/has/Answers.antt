use Rattle.std.proofs.Common.{ap, ◌∙◌}
use Rattle.std.specs.List.{list_any}
use Rattle.fj_meaning_turns.specs.Run as run
use Rattle.fj_meaning_turns.specs.Turns.{is_at}
use Rattle.fj_run_pending.specs.Plain.{held}
use Rattle.fj_run_pending.proofs.Answering.{has_is}
use Rattle.fj_run_pending.proofs.pendings.Pendings.has.Goals as goal

pub returns : goal.returns
returns c =
    c.is_some.ensures
    ∙ has_is c.args.slot c.args.number c.self.inside.helds.items c.seek.result c.seek.ensures.some c.seek.ensures.none
    ∙ ap (λ hs. list_any (λ (h : run.Held). is_at c.args.slot c.args.number h.pending) (held hs)) c.self.view_is
