use Rattle.std.proofs.Common.{◌≡◌, ◌++◌, List, map, length}
use Rattle.fj_statement.specs.declared.deck.Variable.{Variable}
use Rattle.fj_store.specs.Storage.{values_of}
use Rattle.fj_meaning.specs.Telling.{with_inputs, condition_of, graver, tell_of}
use Rattle.fj_run_pending.specs.Plain.{entries, tells_of}
use Rattle.fj_run_pending.proofs.deliver.deliver.Given as goal

-- what is left does what all do from where it stands
abbrev pub invariant-loop-held : goal.invariant-loop-held
invariant-loop-held l = record {
  kinds : l.store.kinds ≡ l.initial.store.kinds;
  values : (variables : List Variable) → l.initial.store.kinds ≡ map (λ v. v.kind) variables
      → with_inputs variables (entries l.left.items) (values_of l.store) ≡ with_inputs variables (entries l.initial.left.items) (values_of l.initial.store);
  condition : graver l.condition (condition_of (entries l.left.items)) ≡ condition_of (entries l.initial.left.items);
  tells : tells_of l.tells ++ map (tell_of l.line) (entries l.left.items) ≡ tells_of l.initial.tells ++ map (tell_of l.line) (entries l.initial.left.items);
}

abbrev pub decreases-loop-held : goal.decreases-loop-held
decreases-loop-held l = length l.left.items
