use Rattle.std.proofs.Common.{◌≡◌, [], length}
use Rattle.fj_value.specs.declared.kind.Kind.{Kind}
use Rattle.fj_moved.specs.Load.{row_cells}
use Rattle.fj_store.specs.Rows.{ArePut}
use Rattle.fj_store.proofs.rows.put_values.Given as goal

abbrev pub invariant-loop-value : goal.invariant-loop-value
invariant-loop-value l = record {
  put : (of : Kind) → ArePut l.kind l.first.var (row_cells l.first of l.yielded) l.initial.marks l.initial.values [] l.marks l.values;
  at : l.at ≡ length l.yielded;
}
