use Rattle.fj_meaning_turns.proofs.FewJobs as few
use Rattle.fj_meaning_turns.proofs.laws.gives_few_jobs.Goals as goal

pub returns : goal.returns
returns c = few.gives_few_jobs
