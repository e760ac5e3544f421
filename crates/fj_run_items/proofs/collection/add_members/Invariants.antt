use Rattle.std.proofs.Common.{◌≡◌, ◌+◌, ◌++◌, List, length, map, take}
use Rattle.std.specs.List.{sum_by}
use Rattle.fj_meaning.specs.Items.{places_of}
use Rattle.fj_statement.specs.declared.statement.Operand.{Operand}
use Rattle.fj_statement.specs.declared.statement.Operand.TheVariants.{Whole}
use Rattle.fj_run_items.specs.Gathering.{IsGathered}
use Rattle.fj_run_items.proofs.collection.add_members.Given as goal

abbrev pub invariant-loop-var : goal.invariant-loop-var
invariant-loop-var l = record {
  more : (before : List Operand) → IsGathered l.variables before l.initial.gathered → IsGathered l.variables (before ++ map Whole (take l.var-index l.vars)) l.gathered;
  size : l.gathered.size ≡ l.initial.gathered.size + sum_by (λ var. length (places_of l.variables var)) (take l.var-index l.vars);
}
