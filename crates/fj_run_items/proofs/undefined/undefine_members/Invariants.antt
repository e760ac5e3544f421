use Rattle.std.proofs.Common.{◌≡◌, ◌++◌, List, map, drop}
use Rattle.std.specs.List.{flat_map}
use Rattle.fj_value.specs.declared.value.Cell.{Cell}
use Rattle.fj_store.specs.Storage.{values_of}
use Rattle.fj_store.specs.Variables.{Variables, undefined_at}
use Rattle.fj_meaning.specs.Items.{cell_at, places_of}
use Rattle.fj_run_items.proofs.undefined.undefine_members.Given as goal

abbrev pub invariant-loop-var : goal.invariant-loop-var
invariant-loop-var l = record {
  blank : (values : Variables) (more : List Cell) → undefined_at (map (cell_at l.variables values) (flat_map (places_of l.variables) (drop l.var-index l.vars)) ++ more) (values_of l.store)
      ≡ undefined_at (map (cell_at l.variables values) (flat_map (places_of l.variables) l.vars) ++ more) (values_of l.initial.store);
  kinds : l.store.kinds ≡ l.initial.store.kinds;
}
