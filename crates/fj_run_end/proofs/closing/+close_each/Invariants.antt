use Rattle.std.proofs.Common.{length}
use Rattle.fj_run_end.proofs.closing.+close_each.Given as goal

abbrev pub decreases-close_each : goal.decreases-close_each
decreases-close_each g l = length l.units.now
