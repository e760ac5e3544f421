use Rattle.std.proofs.Common.{None}
use Rattle.fj_slot_tests.proofs.queue.next_job.Given as goal

abbrev pub ghost-resume : goal.ghost-resume
ghost-resume g a = None
