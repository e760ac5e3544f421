use Rattle.fj_list.proofs.Constants.{integers_read}
use Rattle.fj_list.proofs.laws.integers_are_read.Goals as goal

pub returns : goal.returns
returns c = integers_read
