use Rattle.std.proofs.Common.{take}
use Rattle.fj_store.specs.Places.{places_in}
use Rattle.fj_book.proofs.CountLemmas.{AreRaised}
use Rattle.fj_book.proofs.counts.Counts.add_all.Given as goal

abbrev pub invariant-loop-run : goal.invariant-loop-run
invariant-loop-run l = AreRaised l.by (places_in (take l.run-index l.run-items)) l.initial.self l.self
