-- Slots and logs forgotten, the execution over desks is what the deck means.
use Rattle.std.specs.Prelude.{◌≡◌, List, Option, Some, None, slice_get}
use Rattle.fj_statement.specs.declared.deck.Variable.{Variable}
use Rattle.fj_statement.specs.declared.deck.Lined.{Lined}
use Rattle.fj_bay.specs.Bay.{Bay}
use Rattle.fj_meaning.specs.State.{State, Files, Unit, start}
use Rattle.fj_meaning.specs.Statement.{Stated, Ran, executed, plain_execution}
use Rattle.fj_meaning_jobs.specs.Both.{Both}
use Rattle.fj_meaning_jobs.specs.Core.{Connected}
use Rattle.fj_meaning_jobs.specs.Desks.{Desk}
use Rattle.fj_meaning_jobs.specs.Doing.{Desked}
use Rattle.fj_meaning_jobs.specs.Desking.{entries, DesksRan, over_desks, fresh, execution_over_desks}

abbrev pub bay_at : Option Desk → Option Bay
bay_at None = None
bay_at (Some d) = Some d.bay

-- the slot of the unit has its connection and its halt
pub record IsSeen (desks : List Desk) (u : Connected) (v : Unit) : Type 0 where
  pub number : u.number ≡ v.number
  pub name : u.name ≡ v.connection.name
  pub modes : u.modes ≡ v.connection.modes
  pub bay : bay_at (slice_get desks u.slot) ≡ Some (record { connection = Some v.connection; halt = v.halt })

-- the same variables, pending transfers with what became of them, connected units with their halts, files, output, identifiers and
-- tells
pub record Same (p : Desked) (s : State) : Type 0 where
  pub vars : p.core.vars ≡ s.vars
  pub book : entries p ≡ s.book
  pub units : Both (IsSeen p.desks) p.core.units s.units
  pub files : p.core.files ≡ s.files
  pub output : p.core.output ≡ s.output
  pub next : p.core.next ≡ s.next
  pub new_unit : p.core.new_unit ≡ s.new_unit
  pub tells : p.core.tells ≡ s.tells

pub record Forgets (ran : DesksRan) (meant : Ran) : Type 0 where
  pub ending : ran.ending ≡ meant.ending
  pub same : Same ran.desked meant.state

-- for every deck
abbrev pub SlotsForgotten : Type 0
SlotsForgotten = (variables : List Variable) (sts : List Stated) (files : Files) →
    Forgets (over_desks variables sts (fresh variables files)) (executed variables sts (start variables files))

-- so the results are the same
abbrev pub ResultsAgree : Type 0
ResultsAgree = (variables : List Variable) (statements : List Lined) (files : Files) →
    execution_over_desks variables statements files ≡ plain_execution variables statements files
