use Rattle.std.proofs.Common.{◌≡◌, map, take}
use Rattle.fj_value.specs.declared.value.Value.TheVariants.{Int}
use Rattle.fj_unit.proofs.transfer.values_of.Given as goal

abbrev pub invariant-loop-n : goal.invariant-loop-n
invariant-loop-n l = l.values ≡ map Int (take l.n-index l.numbers)
