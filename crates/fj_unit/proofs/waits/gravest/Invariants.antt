use Rattle.std.proofs.Common.{◌≡◌, ◌≤◌, length, map, drop}
use Rattle.fj_unit.specs.Program.{outcome_of, gravest}
use Rattle.fj_unit.proofs.waits.gravest.Given as goal

abbrev pub invariant-loop-at : goal.invariant-loop-at
invariant-loop-at l = record {
  within : l.at ≤ length l.kept;
  so_far : l.so_far ≡ gravest (map outcome_of (drop l.at l.kept));
}

abbrev pub decreases-loop-at : goal.decreases-loop-at
decreases-loop-at l = l.at
