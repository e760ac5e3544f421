use Rattle.std.proofs.Common.{◌≡◌, drop, map}
use Rattle.fj_meaning_jobs.specs.Core.{connected_at}
use Rattle.fj_run_units.specs.Units.{connected_of}
use Rattle.fj_run_units.proofs.units.find_in.Given as goal

abbrev pub invariant-loop-at : goal.invariant-loop-at
invariant-loop-at l = connected_at (map connected_of (drop l.at l.list)) l.number ≡ connected_at (map connected_of l.list) l.number
