use Rattle.std.proofs.Common.{◌≡◌, None, drop}
use Rattle.fj_format.specs.Unfolding.{from_last_group}
use Rattle.fj_control.proofs.again.again_of.Given as goal

abbrev pub invariant-loop-i : goal.invariant-loop-i
invariant-loop-i l = from_last_group (drop l.i l.items) ≡ None
