use Rattle.fj_job.proofs.Calling.{learn_nothing}
use Rattle.fj_job.proofs.laws.some_learn_nothing.Goals as goal

pub returns : goal.returns
returns c = learn_nothing
