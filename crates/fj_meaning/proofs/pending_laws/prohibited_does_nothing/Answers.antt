use Rattle.fj_meaning.proofs.Turning.{prohibited_is}
use Rattle.fj_meaning.proofs.pending_laws.prohibited_does_nothing.Goals as goal

pub returns : goal.returns
returns c variables st s rule is = prohibited_is variables st s rule is
