use Rattle.std.proofs.Common.{◌≡◌, drop, map}
use Rattle.fj_run_units.specs.Units.{has_slot}
use Rattle.fj_run_units.specs.Units.{connected_of}
use Rattle.fj_run_units.proofs.units.has_slot_in.Given as goal

abbrev pub invariant-loop-at : goal.invariant-loop-at
invariant-loop-at l = has_slot (map connected_of (drop l.at l.list)) l.slot ≡ has_slot (map connected_of l.list) l.slot
