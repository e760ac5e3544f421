use Rattle.fj_meaning_laws.proofs.Waits.{none_pending}
use Rattle.fj_meaning_laws.proofs.waiting_laws.none_stays_pending.Goals as goal

pub returns : goal.returns
returns c variables sts files st n all allowed = none_pending variables sts files st n all allowed
