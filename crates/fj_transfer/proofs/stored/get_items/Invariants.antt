use Rattle.std.proofs.Common.{◌≡◌, ◌+◌, ◌≤◌, length, drop}
use Rattle.fj_moved.specs.Cells.{places_of}
use Rattle.fj_transfer.specs.Transfer.{widths, values_from}
use Rattle.fj_transfer.proofs.stored.get_items.Given as goal

abbrev pub invariant-loop-at : goal.invariant-loop-at
invariant-loop-at l = record {
  values : values_from l.initial.cells l.order l.bytes ≡ values_from l.cells (drop l.at-index l.order) (drop l.from l.bytes);
  places : places_of l.cells ≡ places_of l.initial.cells;
  count : length l.cells ≡ length l.initial.cells;
  enough : l.from + widths l.cells (drop l.at-index l.order) ≤ length l.bytes;
}
