use Rattle.std.proofs.Common.{◌≡◌, map, take, length}
use Rattle.fj_value.specs.declared.value.Value.TheVariants.{Int}
use Rattle.fj_unit.proofs.transfer.copy_values.Given as goal

abbrev pub invariant-loop-at : goal.invariant-loop-at
invariant-loop-at l = record {
  long : length l.out ≡ length l.values;
  so_far : map Int (take l.at l.out) ≡ take l.at l.values;
}
