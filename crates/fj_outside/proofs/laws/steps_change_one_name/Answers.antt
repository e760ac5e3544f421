use Rattle.fj_outside.proofs.HoldingLaws.{steps}
use Rattle.fj_outside.proofs.laws.steps_change_one_name.Goals as goal

pub returns : goal.returns
returns c = steps
