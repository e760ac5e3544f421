use Rattle.std.proofs.Common.{◌≡◌, ◌≤◌, ◌*◌, take, sum}
use Rattle.fj_gen.proofs.sum.byte_sum.Given as goal

abbrev pub invariant-loop-byte : goal.invariant-loop-byte
invariant-loop-byte l = record {
  value : l.total ≡ sum (take l.byte-index l.bytes);
  bound : l.total ≤ 255 * l.byte-index;
}
