use Rattle.std.proofs.Common.{◌≡◌, ◌++◌}
use Rattle.std.specs.Prelude.{filter, nat_lt}
use Rattle.fj_run_units.specs.declared.connected.Connected.{Connected}
use Rattle.fj_run_units.proofs.units.split.Given as goal

abbrev pub invariant-loop-unit : goal.invariant-loop-unit
invariant-loop-unit l = (l.below.items ≡ l.initial.below.items ++ filter (λ (u : Connected). nat_lt u.number l.number) l.yielded)
    × (l.above.items ≡ l.initial.above.items ++ filter (λ (u : Connected). nat_lt l.number u.number) l.yielded)
