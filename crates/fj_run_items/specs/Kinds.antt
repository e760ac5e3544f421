-- The kinds of variables that are declared.
use Rattle.std.specs.Prelude.{List, map}
use Rattle.fj_value.specs.declared.kind.Kind.{Kind}
use Rattle.fj_statement.specs.declared.deck.Variable.{Variable}

abbrev pub kinds_of : List Variable → List Kind
kinds_of variables = map (λ (v : Variable). v.kind) variables
