use Rattle.std.proofs.Common.{rules}
use Rattle.fj_queue.proofs.Counts.{begins_job}
use Rattle.fj_queue.proofs.Calls.{due_small, started}
use Rattle.fj_queue.proofs.jobs.QueueOf+Slot+E+E+E+Task+Law+E.start.Goals as goal

pub fetch_add-progress-requires : goal.fetch_add-progress-requires
fetch_add-progress-requires g c = let b = c.requires.begun in (search rules, search rules, begins_job g.E.Engine.meaning _ _ _ _ c.args.cell.value.done b.holds b.out b.progress_is b.stop (due_small _ b.sized b.begun))

pub leave-requires-clause-inside : goal.leave-requires-clause-inside
leave-requires-clause-inside g c = let b = c.requires.begun in started g.E.Engine.meaning _ _ c.args.cell.value b (c.fetch_add-progress.ensures.2 c.args.cell.value.done b.progress_is)
