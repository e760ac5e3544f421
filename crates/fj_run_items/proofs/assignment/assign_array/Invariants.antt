use Rattle.std.proofs.Common.{◌≡◌, ◌+◌, ◌-◌}
use Rattle.fj_store.specs.Places.{counted_from}
use Rattle.fj_store.specs.Storage.{values_of}
use Rattle.fj_meaning.specs.Items.{places_of}
use Rattle.fj_meaning.specs.Statement.{assigned}
use Rattle.fj_run_items.proofs.assignment.assign_array.Given as goal

abbrev pub invariant-loop-at : goal.invariant-loop-at
invariant-loop-at l = record {
  left : assigned l.variables (counted_from l.var (l.at + 1) (l.at-end - l.at)) l.value (values_of l.store) ≡ assigned l.variables (places_of l.variables l.var) l.value (values_of l.initial.store);
  kinds : l.store.kinds ≡ l.initial.store.kinds;
}
