use Rattle.std.proofs.Common.{◌≡◌, take}
use Rattle.fj_run_statements.proofs.places.in_order.Given as goal

abbrev pub invariant-loop-run : goal.invariant-loop-run
invariant-loop-run l = l.ordered.items ≡ take l.run-index l.runs
