use Rattle.fj_meaning_jobs.proofs.SoundStates as all
use Rattle.fj_meaning_jobs.proofs.laws.results_agree.Goals as goal

pub returns : goal.returns
returns c = all.results_agree
