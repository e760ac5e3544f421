use Rattle.std.proofs.Common.{◌≡◌, drop, map}
use Rattle.fj_run_units.specs.Units.{is_taken}
use Rattle.fj_run_units.specs.Units.{connected_of}
use Rattle.fj_run_units.proofs.units.is_taken_in.Given as goal

abbrev pub invariant-loop-at : goal.invariant-loop-at
invariant-loop-at l = is_taken (map connected_of (drop l.at l.list)) l.number l.name ≡ is_taken (map connected_of l.list) l.number l.name
