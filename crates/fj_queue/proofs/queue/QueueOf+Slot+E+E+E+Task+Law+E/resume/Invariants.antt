use Rattle.fj_queue.proofs.queue.QueueOf+Slot+E+E+E+Task+Law+E.resume.Given as goal

abbrev pub ghost-any : goal.ghost-any
ghost-any g a = g.plan
