use Rattle.std.proofs.Common.{◌≡◌, ◌≤◌, length, take, vec_capacity}
use Rattle.fj_store.proofs.copied.copy_row.Given as goal

abbrev pub invariant-loop-value : goal.invariant-loop-value
invariant-loop-value l = record {
  values : l.copies.items ≡ take l.value-index l.values;
  room : length l.values ≤ vec_capacity l.copies;
}
