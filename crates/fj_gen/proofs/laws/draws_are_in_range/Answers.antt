use Rattle.fj_gen.proofs.Steps.{draws_in_range}
use Rattle.fj_gen.proofs.laws.draws_are_in_range.Goals as goal

pub returns : goal.returns
returns c = draws_in_range
