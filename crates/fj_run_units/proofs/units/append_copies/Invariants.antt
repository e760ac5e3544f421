use Rattle.std.proofs.Common.{◌≡◌, ◌++◌, drop, map}
use Rattle.fj_run_units.specs.Units.{connected_of}
use Rattle.fj_run_units.proofs.units.append_copies.Given as goal

abbrev pub invariant-loop-unit : goal.invariant-loop-unit
invariant-loop-unit l = map connected_of l.list.items ++ map connected_of (drop l.unit-index l.units) ≡ map connected_of l.initial.list.items ++ map connected_of l.units
