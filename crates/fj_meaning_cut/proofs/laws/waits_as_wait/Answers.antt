use Rattle.fj_meaning_cut.proofs.AsWait as wait
use Rattle.fj_meaning_cut.proofs.laws.waits_as_wait.Goals as goal

pub returns : goal.returns
returns c = wait.waits_as_wait
