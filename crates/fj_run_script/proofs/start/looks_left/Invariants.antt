use Rattle.std.proofs.Common.{◌≡◌, ◌+◌, drop}
use Rattle.fj_run_script.specs.Room.{looks_left}
use Rattle.fj_run_script.proofs.start.looks_left.Given as goal

abbrev pub invariant-loop-lined : goal.invariant-loop-lined
invariant-loop-lined l = l.count + looks_left (drop l.lined-index l.statements) ≡ looks_left l.statements
