use Rattle.fj_meaning_laws.proofs.Waits.{awaits_exactly}
use Rattle.fj_meaning_laws.proofs.waiting_laws.awaits_exactly.Goals as goal

pub returns : goal.returns
returns c s st has = awaits_exactly s st has
