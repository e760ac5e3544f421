use Rattle.std.proofs.Common.{◌≡◌, ◌++◌, drop}
use Rattle.std.specs.List.{flat_map}
use Rattle.fj_report.specs.Lines.{KeepsFront, shown_byte}
use Rattle.fj_report.proofs.variable.append_bytes.Given as goal

abbrev pub invariant-loop-byte : goal.invariant-loop-byte
invariant-loop-byte l = record {
  appended : l.out ++ flat_map shown_byte (drop l.byte-index l.bytes) ≡ l.fn.out ++ flat_map shown_byte l.bytes;
  kept : KeepsFront l.fn.out l.out;
}
