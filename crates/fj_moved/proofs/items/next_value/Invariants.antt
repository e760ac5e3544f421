use Rattle.std.proofs.Common.{◌≡◌, ◌-◌, length, drop}
use Rattle.fj_moved.specs.Items.{in_runs_from}
use Rattle.fj_moved.proofs.items.next_value.Given as goal

abbrev pub invariant-loop-run : goal.invariant-loop-run
invariant-loop-run l = in_runs_from l.at (drop l.run l.runs) ≡ in_runs_from l.initial.at (drop l.initial.run l.runs)

abbrev pub decreases-loop-run : goal.decreases-loop-run
decreases-loop-run l = length l.runs - l.run
