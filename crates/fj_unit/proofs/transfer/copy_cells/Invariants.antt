use Rattle.std.proofs.Common.{◌≡◌, map, take, length}
use Rattle.fj_value.specs.declared.value.Cell.{Cell}
use Rattle.fj_value.specs.declared.value.Value.TheVariants.{Int}
use Rattle.fj_unit.proofs.transfer.copy_cells.Given as goal

abbrev pub invariant-loop-at : goal.invariant-loop-at
invariant-loop-at l = record {
  long : length l.out ≡ length l.cells;
  so_far : map Int (take l.at l.out) ≡ map (λ (cell : Cell). cell.value) (take l.at l.cells);
}
