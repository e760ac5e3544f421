use Rattle.fj_names.proofs.Deciding.{decided}
use Rattle.fj_names.proofs.laws.rules_are_decided.Goals as goal

pub returns : goal.returns
returns c = decided
