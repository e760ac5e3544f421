use Rattle.fj_meaning_laws.proofs.Named.{places_named, arrays_named}
use Rattle.fj_meaning_laws.proofs.naming_laws.named_places_are_needed.Goals as goal

pub returns : goal.returns
returns c variables st p opens = (places_named variables st p opens, arrays_named variables st p)
