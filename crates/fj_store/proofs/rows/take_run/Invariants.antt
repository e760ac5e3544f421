use Rattle.std.proofs.Common.{ℕ, ◌+◌, ◌-◌}
use Rattle.fj_store.specs.Places.{places_of, counted_from}
use Rattle.fj_store.specs.Rows.{AreTaken}
use Rattle.fj_store.specs.Taking.{HasRoom}
use Rattle.fj_store.proofs.rows.take_run.Given as goal

abbrev pub invariant-loop-at : goal.invariant-loop-at
invariant-loop-at l =
    AreTaken l.kind l.run.var (places_of l.run) l.initial.marks l.initial.values l.initial.taken (counted_from l.run.var (l.run.first + l.at) (l.run.count - l.at)) l.marks l.values l.taken
    × ((n : ℕ) → HasRoom l.initial.taken (l.run.count + n) → HasRoom l.taken ((l.run.count - l.at) + n))
