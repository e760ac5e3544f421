use Rattle.fj_meaning_laws.proofs.Needed.{is_needed}
use Rattle.fj_meaning_laws.proofs.naming_laws.needs_are_named.Goals as goal

pub returns : goal.returns
returns c variables s st p = is_needed variables s st p
