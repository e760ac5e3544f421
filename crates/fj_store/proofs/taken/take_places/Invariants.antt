use Rattle.std.proofs.Common.{◌≡◌, drop, length}
use Rattle.fj_store.specs.Places.{places_in}
use Rattle.fj_store.specs.Taking.{taking, HasRoom, IsMarked, take_runs}
use Rattle.fj_store.proofs.taken.take_places.Given as goal

abbrev pub invariant-loop-run : goal.invariant-loop-run
invariant-loop-run l =
    (take_runs l.kinds (taking l.slots l.taken) (drop l.run-index l.runs) ≡ take_runs l.kinds (taking l.initial.slots l.initial.taken) l.runs)
    × IsMarked l.slots l.taken.cells.items
    × HasRoom l.taken (length (places_in (drop l.run-index l.runs)))
