use Rattle.std.proofs.Common.{length}
use Rattle.fj_batch.proofs.report.+greatest_exit.Given as goal

abbrev pub decreases-greatest_exit : goal.decreases-greatest_exit
decreases-greatest_exit g l = length l.members.now
