use Rattle.std.proofs.Common.{◌≡◌, replicate}
use Rattle.fj_value.specs.declared.value.Value.TheVariants.{Undefined}
use Rattle.fj_store.proofs.slots.undefined_row.Given as goal

abbrev pub invariant-loop-at : goal.invariant-loop-at
invariant-loop-at l = l.row ≡ replicate l.at Undefined
