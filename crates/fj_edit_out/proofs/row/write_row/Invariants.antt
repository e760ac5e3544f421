use Rattle.std.proofs.Common.{◌≡◌, ◌+◌, ◌-◌, ◌*◌, ◌++◌, length, take, drop, replicate, flat_map, None}
use Rattle.fj_edit_out.specs.Item.{integers_in}
use Rattle.fj_edit_out.specs.OutputField.{integer_field}
use Rattle.fj_edit_out.proofs.row.write_row.Given as goal

abbrev pub invariant-loop-i : goal.invariant-loop-i
invariant-loop-i l = record {
  at : l.at ≡ l.i * l.w;
  blank : drop l.at l.row ≡ replicate ((length l.values - l.i) * l.w) 32;
  count : l.i + length (integers_in l.kind (drop l.i l.values)) ≡ length (integers_in l.kind l.values);
  row : take l.at l.row ++ flat_map (integer_field l.plus (l.w, None)) (integers_in l.kind (drop l.i l.values)) ≡ flat_map (integer_field l.plus (l.w, None)) (integers_in l.kind l.values);
}
