-- The shapes of variables.
use Rattle.std.specs.Prelude.{ℕ}
use Rattle.fj_value.specs.declared.kind.Kind.{Kind}
use Rattle.fj_statement.specs.declared.deck.Variable.{Variable}
use Rattle.fj_meaning.specs.State.{elements}

-- the kind with the number of elements
abbrev pub shape_of : Variable → Kind × ℕ
shape_of v = (v.kind, elements v)
