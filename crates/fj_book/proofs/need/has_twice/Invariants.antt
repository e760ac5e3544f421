use Rattle.std.proofs.Common.{◌≡◌, drop}
use Rattle.fj_store.specs.Places.{has_twice}
use Rattle.fj_book.proofs.need.has_twice.Given as goal

abbrev pub invariant-loop-at : goal.invariant-loop-at
invariant-loop-at l = has_twice (drop l.at l.places) ≡ has_twice l.places
