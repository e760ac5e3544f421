use Rattle.std.proofs.Common.{◌≡◌, drop}
use Rattle.std.specs.List.{list_any}
use Rattle.fj_store.specs.Places.{places_in}
use Rattle.fj_book.proofs.place_test.any_in_runs.Given as goal

abbrev pub invariant-loop-run : goal.invariant-loop-run
invariant-loop-run g l = list_any (g.T.RunTest.passes l.test) (places_in (drop l.run-index l.runs)) ≡ list_any (g.T.RunTest.passes l.test) (places_in l.runs)
