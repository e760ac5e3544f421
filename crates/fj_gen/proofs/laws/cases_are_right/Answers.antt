use Rattle.fj_gen.proofs.WorkedCases.{cases}
use Rattle.fj_gen.proofs.laws.cases_are_right.Goals as goal

pub returns : goal.returns
returns c = cases
