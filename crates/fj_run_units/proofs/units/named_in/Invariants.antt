use Rattle.std.proofs.Common.{◌≡◌, drop, map}
use Rattle.fj_meaning_jobs.specs.Core.{unit_named}
use Rattle.fj_run_units.specs.Units.{connected_of}
use Rattle.fj_run_units.proofs.units.named_in.Given as goal

abbrev pub invariant-loop-at : goal.invariant-loop-at
invariant-loop-at l = unit_named (map connected_of (drop l.at l.list)) l.name ≡ unit_named (map connected_of l.list) l.name
