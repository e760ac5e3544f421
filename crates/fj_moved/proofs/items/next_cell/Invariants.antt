use Rattle.std.proofs.Common.{◌≡◌, ◌-◌, length, drop}
use Rattle.fj_moved.specs.Items.{in_cells}
use Rattle.fj_moved.proofs.items.next_cell.Given as goal

abbrev pub invariant-loop-at : goal.invariant-loop-at
invariant-loop-at l = in_cells l.cells (drop l.at l.order) ≡ in_cells l.cells (drop l.initial.at l.order)

abbrev pub decreases-loop-at : goal.decreases-loop-at
decreases-loop-at l = length l.order - l.at
