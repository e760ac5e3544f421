use Rattle.std.proofs.Common.{◌≡◌, ℕ, map, take, replicate}
use Rattle.fj_value.specs.declared.kind.Kind.{Kind}
use Rattle.fj_value.specs.declared.value.Value.TheVariants.{Undefined}
use Rattle.fj_store.specs.declared.slot.Mark.TheVariants as marked
use Rattle.fj_store.proofs.slots.Slots.undefined.Given as goal

abbrev pub invariant-loop-count : goal.invariant-loop-count
invariant-loop-count l = record {
  marks : l.marks ≡ map (λ (v : Kind × ℕ). replicate v.1 (marked.Home 0)) (take l.count-index l.variables);
  values : l.values ≡ map (λ (v : Kind × ℕ). replicate v.1 Undefined) (take l.count-index l.variables);
}
