-- A run up to a statement, and what comes behind it.
use Rattle.std.specs.Prelude.{◌≡◌, ℕ, List, ◌++◌, take, slice_get, Option, Some, None}
use Rattle.fj_statement.specs.declared.deck.Variable.{Variable}
use Rattle.fj_meaning.specs.State.{State}
use Rattle.fj_meaning.specs.Statement.{Stated, Ran, begun_in, executed, cut}

-- where the statements before have not ended the deck, the next one begins in the state that they reach
abbrev pub next_at : Ran → Option Stated → Option (Stated × State)
next_at ran None = None
next_at ran (Some st) = elim ran.ending as (λ _. Option (Stated × State)) [ None ↦ Some (begun_in ran.state st, ran.state) | Some e ↦ None ]

-- just before a statement is where the statements before it come to
abbrev pub CutIsBefore : Type 0
CutIsBefore = (variables : List Variable) (index : ℕ) (sts : List Stated) (s : State) → cut variables index sts s ≡ next_at (executed variables (take index sts) s) (slice_get sts index)

-- further statements go on from there, unless the deck has ended
abbrev pub go_on : List Variable → List Stated → Ran → Ran
go_on variables more ran = elim ran.ending as (λ _. Ran) [ None ↦ executed variables more ran.state | Some e ↦ ran ]

abbrev pub ExecutionGoesOn : Type 0
ExecutionGoesOn = (variables : List Variable) (first more : List Stated) (s : State) → executed variables (first ++ more) s ≡ go_on variables more (executed variables first s)
