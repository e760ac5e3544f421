use Rattle.std.proofs.Common.{◌≡◌, ℕ, ◌<◌, Option, None, slice_index_or}
use Rattle.fj_world.specs.declared.busy.Busy.{Busy}
use Rattle.fj_world.proofs.world.are_idle.Given as goal

abbrev pub invariant-loop-held : goal.invariant-loop-held
invariant-loop-held g l = (k : ℕ) (d : Option (Busy g.row.E.Denot g.row.E-Job.Denot g.row.E-Answer.Denot g.row.E-State.Denot g.row.E-Task.Denot g.row.E-Reply.Denot)) → k < l.held-index
    → slice_index_or l.workers k d ≡ None
