use Rattle.fj_list.proofs.Looking.{looked_at}
use Rattle.fj_list.proofs.laws.records_are_looked_at_as_needed.Goals as goal

pub returns : goal.returns
returns c = looked_at
