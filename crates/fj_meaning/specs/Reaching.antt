-- The states that statements reach, and what the laws on them speak of.
use Rattle.std.specs.Prelude.{ℕ, ◌==◌, ◌&&◌, Bool, false, List, [], ◌∷◌, Option, Some, None, if◌then◌else◌}
use Rattle.fj_value.specs.declared.condition.Condition.{Condition}
use Rattle.fj_statement.specs.declared.deck.Variable.{Variable}
use Rattle.fj_statement.specs.declared.statement.Transfer.{Transfer}
use Rattle.fj_statement.specs.declared.statement.Statement.{Statement}
use Rattle.fj_statement.specs.declared.statement.Statement.TheVariants as statement
use Rattle.fj_meaning.specs.State.{State, Files, Unit, Entry, start, halts, is_fine}
use Rattle.fj_meaning.specs.Needs.{number_of}
use Rattle.fj_meaning.specs.Telling.{is_asynchronous}
use Rattle.fj_meaning.specs.Transfers.{refusal, layout_of, moved_by}
use Rattle.fj_meaning.specs.Statement.{Stated, executed, unit_at}

-- the state that the first statements of a deck reach, or in which one of them ends it
abbrev pub reached : List Variable → List Stated → Files → State
reached variables sts files = (executed variables sts (start variables files)).state

-- a transfer with ASYNCHRONOUS='YES'
abbrev pub is_later : Statement → Bool
is_later (statement.Transfer t) = is_asynchronous t
is_later _ = false

-- the transfer fits the unit that is connected
abbrev pub fits : List Variable → State → Transfer → Option Unit → Bool
fits variables s t None = false
fits variables s t (Some u) = is_fine (refusal u.connection.modes t (layout_of variables (moved_by variables s t).cells t.control))

-- a transfer becomes pending where it has ASYNCHRONOUS='YES' and fits a unit that is connected (9.5.1.4)
abbrev pub becomes_pending : List Variable → State → Statement → Bool
becomes_pending variables s (statement.Transfer t) = is_asynchronous t && fits variables s t (unit_at s (number_of t.unit))
becomes_pending variables s _ = false

-- the condition of the first pending transfer of a unit that met an error or the end of the file
abbrev pub cause_of : List Entry → ℕ → Option Condition
cause_of [] number = None
cause_of (e ∷ es) number = if (e.unit == number) && halts e.condition then Some e.condition else cause_of es number
