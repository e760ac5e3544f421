use Rattle.std.proofs.Common.{sym, subst}
use Rattle.fj_format.specs.Sound.{IsSound}
use Rattle.fj_format.proofs.format.Format.try_clone.Goals as goal

pub invariant_of-result : goal.invariant_of-result
invariant_of-result c = subst IsSound (sym c.in_ok-try_clone.ensures) c.self.invariant
