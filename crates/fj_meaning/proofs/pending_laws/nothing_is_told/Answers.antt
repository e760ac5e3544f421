use Rattle.fj_meaning.proofs.Turning.{quiet}
use Rattle.fj_meaning.proofs.pending_laws.nothing_is_told.Goals as goal

pub returns : goal.returns
returns c variables statements files none = quiet variables statements files none
