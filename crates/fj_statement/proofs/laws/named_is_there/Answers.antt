use Rattle.fj_statement.proofs.Naming.{elements_few, members_few, places_few, places_there, variables_there}
use Rattle.fj_statement.proofs.laws.named_is_there.Goals as goal

pub returns : goal.returns
returns c = record { places = places_there; variables = variables_there; elements = elements_few; few = places_few; members = members_few }
