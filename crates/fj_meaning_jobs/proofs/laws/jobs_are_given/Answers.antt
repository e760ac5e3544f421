use Rattle.fj_meaning_jobs.proofs.SoundStates as all
use Rattle.fj_meaning_jobs.proofs.laws.jobs_are_given.Goals as goal

pub returns : goal.returns
returns c = all.jobs_are_given
