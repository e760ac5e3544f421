use Rattle.std.proofs.Common.{take}
use Rattle.fj_store.specs.Places.{places_in}
use Rattle.fj_run_statements.proofs.PlaceLemmas.{AreGathered}
use Rattle.fj_run_statements.proofs.places.distinct_places.Given as goal

abbrev pub invariant-loop-at : goal.invariant-loop-at
invariant-loop-at l = AreGathered (take l.at l.ordered.items) l.var l.end (places_in l.places)
