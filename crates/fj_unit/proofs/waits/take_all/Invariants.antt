use Rattle.std.proofs.Common.{◌≡◌, map, length}
use Rattle.fj_unit.specs.Program.{outcome_of, behind}
use Rattle.fj_unit.proofs.waits.take_all.Given as goal

abbrev pub invariant-loop-unit : goal.invariant-loop-unit
invariant-loop-unit l = behind (map outcome_of l.kept.items) l.unit ≡ behind (map outcome_of l.fn.kept.items) l.fn.unit

abbrev pub decreases-loop-unit : goal.decreases-loop-unit
decreases-loop-unit l = length l.unit.pending
