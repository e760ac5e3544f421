use Rattle.std.proofs.Common.{◌≡◌, ◌++◌, List, drop}
use Rattle.fj_value.specs.declared.value.Cell.{Cell}
use Rattle.fj_store.specs.Storage.{values_of}
use Rattle.fj_store.specs.Variables.{Variables, undefined_at}
use Rattle.fj_meaning.specs.Items.{cells_from, cells_of}
use Rattle.fj_run_items.proofs.undefined.undefine_items.Given as goal

abbrev pub invariant-loop-item : goal.invariant-loop-item
invariant-loop-item l = record {
  blank : (values : Variables) (more : List Cell) → undefined_at (cells_from l.variables values 1 (drop l.item-index l.items) ++ more) (values_of l.store)
      ≡ undefined_at (cells_of l.variables values l.items ++ more) (values_of l.initial.store);
  kinds : l.store.kinds ≡ l.initial.store.kinds;
}
