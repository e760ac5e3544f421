use Rattle.std.proofs.Common.{◌≡◌, drop}
use Rattle.std.specs.List.{list_any, flat_map}
use Rattle.fj_meaning.specs.Items as plain
use Rattle.fj_run_pending.proofs.places.any_in_operands.Given as goal

abbrev pub invariant-loop-operand : goal.invariant-loop-operand
invariant-loop-operand g l = list_any (g.T.RunTest.passes l.test) (flat_map (plain.operand_places l.variables) (drop l.operand-index l.operands)) ≡ list_any (g.T.RunTest.passes l.test) (flat_map (plain.operand_places l.variables) l.operands)
