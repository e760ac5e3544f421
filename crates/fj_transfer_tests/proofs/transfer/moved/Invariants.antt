use Rattle.std.proofs.Common.{◌≡◌, ◌+◌, ◌<◌, length}
use Rattle.std.specs.Prelude.{All}
use Rattle.fj_value.specs.declared.value.Cell.{Cell}
use Rattle.fj_moved.specs.Moved.{AreDistinct}
use Rattle.fj_transfer_tests.proofs.transfer.moved.Given as goal

abbrev pub invariant-loop-at : goal.invariant-loop-at
invariant-loop-at l = record {
  count : length l.cells ≡ l.at;
  distinct : AreDistinct l.cells;
  low : All (λ (cell : Cell). cell.place.index < l.at + 1) l.cells;
  ordered : All (λ at. at < length l.cells) l.order;
}

abbrev pub invariant-loop : goal.invariant-loop
invariant-loop l = All (λ at. at < length l.cells) l.order
