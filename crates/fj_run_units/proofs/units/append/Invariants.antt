use Rattle.std.proofs.Common.{◌≡◌, ◌++◌}
use Rattle.fj_run_units.proofs.units.append.Given as goal

abbrev pub invariant-loop-unit : goal.invariant-loop-unit
invariant-loop-unit l = l.list.items ≡ l.initial.list.items ++ l.yielded
