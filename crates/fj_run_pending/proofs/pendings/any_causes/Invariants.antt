use Rattle.std.proofs.Common.{◌≡◌, drop}
use Rattle.std.specs.List.{list_any}
use Rattle.fj_run_pending.specs.Waits.{is_cause}
use Rattle.fj_run_pending.proofs.pendings.any_causes.Given as goal

abbrev pub invariant-loop-at : goal.invariant-loop-at
invariant-loop-at l = list_any (is_cause l.pick l.unit) (drop l.at l.helds.items) ≡ list_any (is_cause l.pick l.unit) l.helds.items
