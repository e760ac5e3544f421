use Rattle.std.proofs.Common.{◌≡◌, ◌++◌, drop}
use Rattle.std.specs.List.{flat_map}
use Rattle.fj_store.specs.Places.{places_in}
use Rattle.fj_meaning.specs.Items as plain
use Rattle.fj_run_pending.proofs.runs.push_operands.Given as goal

abbrev pub invariant-loop-operand : goal.invariant-loop-operand
invariant-loop-operand l = places_in l.runs ++ flat_map (plain.operand_places l.variables) (drop l.operand-index l.operands) ≡ places_in l.initial.runs ++ flat_map (plain.operand_places l.variables) l.operands
