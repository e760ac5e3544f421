use Rattle.std.proofs.Common.{◌≡◌, ◌≢◌, ◌≤◌, ◌<◌, ◌-◌, ℕ, Some, map, length, slice_get}
use Rattle.fj_unit.specs.Program.{outcome_of, behind, id_of}
use Rattle.fj_unit.specs.Unit.{Outcome}
use Rattle.fj_unit.proofs.waits.find.Given as goal

abbrev pub invariant-loop-kept : goal.invariant-loop-kept
invariant-loop-kept l = record {
  within : l.at ≤ length l.kept.items;
  same : behind (map outcome_of l.kept.items) l.unit ≡ behind (map outcome_of l.fn.kept.items) l.fn.unit;
  passed : (k : ℕ) (o : Outcome) → k < l.at → slice_get (behind (map outcome_of l.fn.kept.items) l.fn.unit).pending k ≡ Some o → id_of o ≢ l.id;
}

abbrev pub decreases-loop-kept : goal.decreases-loop-kept
decreases-loop-kept l = length (behind (map outcome_of l.fn.kept.items) l.fn.unit).pending - l.at
