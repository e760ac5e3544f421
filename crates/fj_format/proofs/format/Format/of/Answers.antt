use Rattle.std.proofs.Common.{rules, sym, subst}
use Rattle.fj_format.specs.Sound.{IsSound}
use Rattle.fj_format.proofs.format.Format.of.Goals as goal

pub invariant_of-result : goal.invariant_of-result
invariant_of-result c = subst IsSound (sym c.in_ok-items.ensures.ok) (search rules)
