use Rattle.std.proofs.Common.{◌≡◌, drop}
use Rattle.std.specs.List.{list_any}
use Rattle.fj_store.specs.Places.{places_of}
use Rattle.fj_book.specs.Counting.{holds_in}
use Rattle.fj_book.proofs.counts.some_hold.Given as goal

abbrev pub invariant-loop-at : goal.invariant-loop-at
invariant-loop-at l = list_any (λ place. list_any (holds_in l.input place) (drop l.at l.entries.items)) (places_of l.run) ≡ list_any (λ place. list_any (holds_in l.input place) l.entries.items) (places_of l.run)
