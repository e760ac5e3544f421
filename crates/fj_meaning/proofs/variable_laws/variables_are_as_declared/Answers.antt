use Rattle.fj_meaning.proofs.Declared.{reached_so}
use Rattle.fj_meaning.proofs.variable_laws.variables_are_as_declared.Goals as goal

pub returns : goal.returns
returns c variables sts files = reached_so variables sts files
