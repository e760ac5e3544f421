use Rattle.std.proofs.Common.{◌≡◌, ◌++◌, drop}
use Rattle.std.specs.List.{flat_map}
use Rattle.fj_store.specs.Places.{places_in}
use Rattle.fj_meaning.specs.Items as plain
use Rattle.fj_run_pending.proofs.runs.push_variables.Given as goal

abbrev pub invariant-loop-var : goal.invariant-loop-var
invariant-loop-var l = places_in l.runs ++ flat_map (plain.places_of l.variables) (drop l.var-index l.vars) ≡ places_in l.initial.runs ++ flat_map (plain.places_of l.variables) l.vars
