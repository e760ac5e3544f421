use Rattle.std.proofs.Common.{◌≡◌, ◌+◌, ◌++◌, List, take}
use Rattle.std.specs.List.{sum_by}
use Rattle.fj_statement.specs.declared.statement.Operand.{Operand}
use Rattle.fj_run_items.specs.Gathering.{IsGathered, count_of}
use Rattle.fj_run_items.proofs.collection.add_items.Given as goal

abbrev pub invariant-loop-item : goal.invariant-loop-item
invariant-loop-item l = record {
  more : (before : List Operand) → IsGathered l.variables before l.initial.gathered → IsGathered l.variables (before ++ take l.item-index l.items) l.gathered;
  size : l.gathered.size ≡ l.initial.gathered.size + sum_by (count_of l.variables) (take l.item-index l.items);
}
