use Rattle.fj_meaning_jobs.proofs.SoundStates as all
use Rattle.fj_meaning_jobs.proofs.laws.slots_forgotten.Goals as goal

pub returns : goal.returns
returns c = all.slots_forgotten
