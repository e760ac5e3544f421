-- Room for looks: one for each statement that may look.
use Rattle.std.specs.Prelude.{ℕ, List}
use Rattle.std.specs.List.{count_by}
use Rattle.fj_statement.specs.declared.deck.Lined.{Lined}
use Rattle.fj_meaning_looks.specs.Inquiring.{asks_whether}

abbrev pub looks_left : List Lined → ℕ
looks_left ls = count_by (λ (l : Lined). asks_whether l.what) ls
