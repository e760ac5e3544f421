use Rattle.std.proofs.Common.{◌≡◌, ◌++◌, drop}
use Rattle.fj_report.specs.Lines.{KeepsFront, trace_lines}
use Rattle.fj_report.proofs.trace.append_trace.Given as goal

abbrev pub invariant-loop-tell : goal.invariant-loop-tell
invariant-loop-tell l = record {
  appended : l.out ++ trace_lines (drop l.tell-index l.tells) ≡ l.fn.out ++ trace_lines l.tells;
  kept : KeepsFront l.fn.out l.out;
}
