use Rattle.std.proofs.Common.{◌≡◌, ◌+◌, ◌++◌, [], length}
use Rattle.std.specs.Prelude.{IfNone}
use Rattle.std.specs.Option.{option_to_list}
use Rattle.fj_store.specs.Tables.{with_cells}
use Rattle.fj_store.specs.Taking.{home}
use Rattle.fj_store.proofs.store.put_back.Given as goal

abbrev pub invariant-putting : goal.invariant-putting
invariant-putting l = record {
  put : with_cells (home l.kinds) (option_to_list l.next ++ l.rest.items) l.slots ≡ with_cells (home l.kinds) l.fn.cells.items l.initial.slots;
  last : IfNone l.next (l.rest.items ≡ []);
}

abbrev pub decreases-putting : goal.decreases-putting
decreases-putting l = length (option_to_list l.next) + length l.rest.items
