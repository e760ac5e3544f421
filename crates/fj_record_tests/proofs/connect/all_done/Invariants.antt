use Rattle.std.proofs.Common.{◌≡◌}
use Rattle.fj_record_tests.proofs.connect.all_done.Given as goal

abbrev pub invariant-loop-step : goal.invariant-loop-step
invariant-loop-step g l = l.c.name ≡ l.fn.c.name
