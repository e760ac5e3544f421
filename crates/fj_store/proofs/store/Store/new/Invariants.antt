use Rattle.std.proofs.Common.{◌≡◌, ℕ, map, take}
use Rattle.fj_value.specs.declared.kind.Kind.{Kind}
use Rattle.fj_store.proofs.store.Store.new.Given as goal

abbrev pub invariant-loop-kind : goal.invariant-loop-kind
invariant-loop-kind l = l.kinds.items ≡ map (λ (v : Kind × ℕ). v.0) (take l.kind-index l.variables)
