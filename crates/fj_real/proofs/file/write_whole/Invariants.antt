use Rattle.std.proofs.Common.{◌≤◌, length}
use Rattle.fj_real.proofs.file.write_whole.Given as goal

abbrev pub invariant-draining : goal.invariant-draining
invariant-draining l = l.count ≤ length l.piece
