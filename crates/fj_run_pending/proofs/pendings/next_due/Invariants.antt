use Rattle.std.proofs.Common.{◌≡◌, take, None}
use Rattle.std.specs.List.{find}
use Rattle.fj_run_pending.specs.Waits.{is_due}
use Rattle.fj_run_pending.proofs.pendings.next_due.Given as goal

abbrev pub invariant-loop-at : goal.invariant-loop-at
invariant-loop-at l = find (is_due l.pick) (take l.from l.helds.items) ≡ None → find (is_due l.pick) (take l.at l.helds.items) ≡ None
