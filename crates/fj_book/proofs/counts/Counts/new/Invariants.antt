use Rattle.std.proofs.Common.{◌≡◌, ℕ, map, take, replicate}
use Rattle.fj_value.specs.declared.kind.Kind.{Kind}
use Rattle.fj_book.proofs.counts.Counts.new.Given as goal

abbrev pub invariant-loop-count : goal.invariant-loop-count
invariant-loop-count l = l.rows.items ≡ map (λ (v : Kind × ℕ). replicate v.1 0) (take l.count-index l.variables)
