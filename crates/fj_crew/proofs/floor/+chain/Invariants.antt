use Rattle.std.specs.Prelude.{◌+◌, ◌*◌, length}
use Rattle.fj_crew.proofs.floor.+chain.Given as goal

abbrev pub decreases-help_all : goal.decreases-help_all
decreases-help_all g l = 3 * length l.xs.now

abbrev pub decreases-help_both : goal.decreases-help_both
decreases-help_both g l = 3 * length l.rest.now + 2

abbrev pub decreases-help_both-join_mut+arg2 : goal.decreases-help_both-join_mut+arg2
decreases-help_both-join_mut+arg2 g l = 3 * length l.rest.now + 1
