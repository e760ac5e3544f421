use Rattle.std.proofs.Common.{◌≡◌, true, Some, is_some}
use Rattle.fj_world.specs.Alone.{ServesOn, left_at}
use Rattle.fj_run_end.proofs.jobs.served.Given as goal

abbrev pub invariant-loop-slot : goal.invariant-loop-slot
invariant-loop-slot g l = record {
  serves : ServesOn g.E.Engine.meaning l.fn.slot l.slot;
  stopped : is_some l.fn.slot.halt ≡ true → l.slot ≡ l.fn.slot;
}

abbrev pub decreases-loop-slot : goal.decreases-loop-slot
decreases-loop-slot g l = left_at (Some l.slot)
