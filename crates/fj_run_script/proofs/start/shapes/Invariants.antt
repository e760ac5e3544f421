use Rattle.std.proofs.Common.{◌≡◌, map, take}
use Rattle.fj_run_script.specs.Making.{shape_of}
use Rattle.fj_run_script.proofs.start.shapes.Given as goal

abbrev pub invariant-loop-at : goal.invariant-loop-at
invariant-loop-at l = l.shapes.items ≡ map shape_of (take l.at l.variables)
