use Rattle.fj_crew.proofs.queues.resume_at.Given as goal

abbrev pub ghost-resume : goal.ghost-resume
ghost-resume g a = g.plan
