use Rattle.fj_meaning.proofs.Cutting.{goes_further}
use Rattle.fj_meaning.proofs.cut_laws.execution_goes_on.Goals as goal

pub returns : goal.returns
returns c variables first more s = goes_further variables first more s
