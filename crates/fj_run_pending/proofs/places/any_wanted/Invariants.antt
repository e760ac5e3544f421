use Rattle.std.proofs.Common.{◌≡◌, drop}
use Rattle.std.specs.List.{list_any}
use Rattle.fj_meaning.specs.Needs.{wanted_places}
use Rattle.fj_run_pending.proofs.places.any_wanted.Given as goal

abbrev pub invariant-loop-wanted : goal.invariant-loop-wanted
invariant-loop-wanted g l = list_any (g.T.RunTest.passes l.test) (wanted_places (drop l.wanted-index l.asked)) ≡ list_any (g.T.RunTest.passes l.test) (wanted_places l.asked)
