use Rattle.std.proofs.Common.{◌≡◌, ◌+◌, ◌-◌, ◌++◌, List, map}
use Rattle.fj_value.specs.declared.value.Cell.{Cell}
use Rattle.fj_store.specs.Places.{counted_from}
use Rattle.fj_store.specs.Storage.{values_of}
use Rattle.fj_store.specs.Variables.{Variables, undefined_at}
use Rattle.fj_meaning.specs.Items.{cell_at, places_of}
use Rattle.fj_run_items.proofs.undefined.undefine_variable.Given as goal

abbrev pub invariant-loop-at : goal.invariant-loop-at
invariant-loop-at l = record {
  blank : (values : Variables) (more : List Cell) → undefined_at (map (cell_at l.variables values) (counted_from l.var (l.at + 1) (l.at-end - l.at)) ++ more) (values_of l.store)
      ≡ undefined_at (map (cell_at l.variables values) (places_of l.variables l.var) ++ more) (values_of l.initial.store);
  kinds : l.store.kinds ≡ l.initial.store.kinds;
}
