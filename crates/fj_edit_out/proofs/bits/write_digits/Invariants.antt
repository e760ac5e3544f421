use Rattle.std.proofs.Common.{◌≡◌, ◌++◌, ◌≤◌, ◌^◌, length, drop}
use Rattle.fj_value.specs.Digits.{numeral}
use Rattle.fj_edit_out.proofs.bits.write_digits.Given as goal

abbrev pub invariant-loop-rest : goal.invariant-loop-rest
invariant-loop-rest l = record {
  within : l.at ≤ 64;
  room : length (numeral (2 ^ l.shift) l.rest) ≤ l.at;
  written : numeral (2 ^ l.shift) l.rest ++ drop l.at l.buffer ≡ numeral (2 ^ l.shift) l.fn.n;
}

abbrev pub decreases-loop-rest : goal.decreases-loop-rest
decreases-loop-rest l = l.rest
