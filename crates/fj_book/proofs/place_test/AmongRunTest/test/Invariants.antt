use Rattle.std.proofs.Common.{◌≡◌, drop}
use Rattle.std.specs.List.{list_any}
use Rattle.fj_store.specs.Places.{is_among, places_in, places_of}
use Rattle.fj_book.proofs.place_test.AmongRunTest.test.Given as goal

abbrev pub invariant-loop-other : goal.invariant-loop-other
invariant-loop-other l = list_any (is_among (places_in (drop l.other-index l.self.runs.now))) (places_of l.run) ≡ list_any (is_among (places_in l.self.runs.now)) (places_of l.run)
