use Rattle.std.proofs.Common.{◌≡◌, take, length}
use Rattle.fj_store.specs.Places.{places_in}
use Rattle.fj_store.proofs.taken.count_of.Given as goal

abbrev pub invariant-loop-run : goal.invariant-loop-run
invariant-loop-run l = l.count ≡ length (places_in (take l.run-index l.runs))
