use Rattle.std.proofs.Common.{◌≡◌, drop}
use Rattle.std.specs.List.{list_any}
use Rattle.fj_book.proofs.place_test.any_of.Given as goal

abbrev pub invariant-loop-place : goal.invariant-loop-place
invariant-loop-place g l = list_any (g.T.RunTest.passes l.test) (drop l.place-index l.places) ≡ list_any (g.T.RunTest.passes l.test) l.places
