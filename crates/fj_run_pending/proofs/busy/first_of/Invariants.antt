use Rattle.std.proofs.Common.{◌≡◌, drop}
use Rattle.fj_run_pending.specs.Busy.{first_of}
use Rattle.fj_run_pending.proofs.busy.first_of.Given as goal

abbrev pub invariant-loop-at : goal.invariant-loop-at
invariant-loop-at l = first_of (drop l.at l.busy.items) l.unit ≡ first_of l.busy.items l.unit
