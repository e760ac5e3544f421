use Rattle.fj_queue.proofs.queue.QueueOf+Slot+E+E+E+Task+Law+E.new.Given as goal

abbrev pub ghost-resume : goal.ghost-resume
ghost-resume g a = g.plan
