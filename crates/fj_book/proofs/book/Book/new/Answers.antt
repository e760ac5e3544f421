use Rattle.std.proofs.Common.{ℕ}
use Rattle.fj_value.specs.declared.kind.Kind.{Kind}
use Rattle.fj_book.proofs.CountLemmas.{none_kept}
use Rattle.fj_book.proofs.book.Book.new.Goals as goal

pub invariant_of-result : goal.invariant_of-result
invariant_of-result c =
    none_kept (λ (v : Kind × ℕ). v.1) c.args.variables.now c.new-3.result.items c.in_ok-inputs.inputs c.in_ok-outputs.outputs c.new-3.ensures.items c.in_ok-inputs.ensures c.in_ok-outputs.ensures
