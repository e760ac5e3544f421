use Rattle.std.proofs.Common.{◌≡◌, ◌≤◌, ◌∷◌, length}
use Rattle.fj_store.specs.Rows.{ArePut}
use Rattle.fj_store.proofs.rows.put_cells.Given as goal

abbrev pub invariant-putting : goal.invariant-putting
invariant-putting l = record {
  put : ArePut l.kind l.var (l.initial.cell ∷ l.initial.rest.items) l.initial.marks l.initial.values (l.cell ∷ l.rest.items) l.marks l.values;
  var : l.cell.place.var ≡ l.var;
  fewer : length l.rest.items ≤ length l.initial.rest.items;
}

abbrev pub decreases-putting : goal.decreases-putting
decreases-putting l = length l.rest.items
