use Rattle.std.proofs.Common.{◌≤◌, length}
use Rattle.fj_real.proofs.file.read_whole.Given as goal

abbrev pub invariant-filling : goal.invariant-filling
invariant-filling l = l.got ≤ length l.buf
