use Rattle.fj_namelist.proofs.Naming.{elements_named}
use Rattle.fj_namelist.proofs.laws.elements_are_named.Goals as goal

pub returns : goal.returns
returns c = elements_named
