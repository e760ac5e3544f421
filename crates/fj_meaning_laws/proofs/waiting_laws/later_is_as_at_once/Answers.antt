use Rattle.fj_meaning_laws.proofs.Comparing.{later_is}
use Rattle.fj_meaning_laws.proofs.waiting_laws.later_is_as_at_once.Goals as goal

pub returns : goal.returns
returns c variables sts files control line n t is none pends first allowed last = later_is variables sts files control line n t is none pends first allowed last
