use Rattle.std.proofs.Common.{◌≡◌, ◌≤◌, drop, map}
use Rattle.std.specs.Prelude.{option_map}
use Rattle.fj_names.specs.Giving.{each}
use Rattle.fj_names.specs.Operands.{meant}
use Rattle.fj_names.specs.Transfer.{are_few}
use Rattle.fj_names.proofs.Choosing.{chosen_behind}
use Rattle.fj_names.proofs.items.choose.Given as goal

-- with the items that are left all of them are there
abbrev pub invariant-loop-operand : goal.invariant-loop-operand
invariant-loop-operand l = record {
  all : chosen_behind l.items l.elements l.bytes (each (meant l.names) (drop l.operand-index l.operands)) ≡ option_map (λ ms. (map (λ m. m.operand) ms, are_few ms)) (each (meant l.names) l.operands);
  elements_few : l.elements ≤ 1000001;
  bytes_few : l.bytes ≤ 16777217;
}
