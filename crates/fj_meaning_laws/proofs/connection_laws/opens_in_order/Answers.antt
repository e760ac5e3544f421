use Rattle.fj_meaning_laws.proofs.Opened.{opens_in_order}
use Rattle.fj_meaning_laws.proofs.connection_laws.opens_in_order.Goals as goal

pub returns : goal.returns
returns c control variables s ref spec status n name is others due_so = opens_in_order control variables s ref spec status n name is others due_so
