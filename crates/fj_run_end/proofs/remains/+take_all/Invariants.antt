use Rattle.std.proofs.Common.{length}
use Rattle.fj_run_end.proofs.remains.+take_all.Given as goal

abbrev pub decreases-take_all : goal.decreases-take_all
decreases-take_all g l = length l.slots.now.slots
