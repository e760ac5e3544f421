use Rattle.std.proofs.Common.{◌≡◌, drop}
use Rattle.std.specs.List.{list_any, flat_map}
use Rattle.fj_meaning.specs.Items as plain
use Rattle.fj_run_pending.proofs.places.any_in_variables.Given as goal

abbrev pub invariant-loop-var : goal.invariant-loop-var
invariant-loop-var g l = list_any (g.T.RunTest.passes l.test) (flat_map (plain.places_of l.variables) (drop l.var-index l.vars)) ≡ list_any (g.T.RunTest.passes l.test) (flat_map (plain.places_of l.variables) l.vars)
