use Rattle.std.proofs.Common.{◌≡◌, replicate}
use Rattle.fj_value.specs.declared.value.Value.TheVariants.{Undefined}
use Rattle.fj_unit.proofs.transfer.undefined.Given as goal

abbrev pub invariant-loop : goal.invariant-loop
invariant-loop l = l.values ≡ replicate l.counter Undefined
