use Rattle.std.proofs.Common.{◌≡◌, ◌≤◌, length, take, vec_capacity}
use Rattle.fj_moved.proofs.elements.copied.Given as goal

abbrev pub invariant-loop-item : goal.invariant-loop-item
invariant-loop-item g l = record {
  items : l.copies.items ≡ take l.item-index l.items;
  room : length l.items ≤ vec_capacity l.copies;
}
