use Rattle.std.proofs.Common.{◌≡◌, take}
use Rattle.std.specs.List.{range_with_len}
use Rattle.fj_moved.specs.Load.{row_cells}
use Rattle.fj_moved.proofs.moved.Row.to_moved.Given as goal

abbrev pub invariant-loop-at : goal.invariant-loop-at
invariant-loop-at l = record {
  cells : l.cells ≡ row_cells l.self.first l.self.kind (take l.at l.self.values);
  order : l.order ≡ range_with_len 0 l.at;
}
