use Rattle.std.proofs.Common.{◌≡◌, ◌++◌, drop}
use Rattle.fj_store.specs.Places.{has_twice}
use Rattle.fj_meaning.specs.Needs.{if_given, wanted_places}
use Rattle.fj_run_pending.proofs.needs.asks_twice.Given as goal

abbrev pub invariant-loop-at : goal.invariant-loop-at
invariant-loop-at l = has_twice (wanted_places (drop l.at l.asked) ++ if_given l.iostat) ≡ has_twice (wanted_places l.asked ++ if_given l.iostat)
