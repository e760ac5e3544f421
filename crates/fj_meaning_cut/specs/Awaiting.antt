-- The units at which a statement waits for a job, and the unit of the slot that stopped (ISO/IEC 1539-1:2004, 9.4.5, 9.4.6, 9.5, 9.6, 9.7,
-- 9.9).
use Rattle.std.specs.Prelude.{◌≡◌, ◌≢◌, ◌⊎◌, ℕ, ◌==◌, Bool, true, false, List, Option, Some, None}
use Rattle.std.specs.List.{list_any}
use Rattle.fj_modes.specs.declared.asked.Wanted.{Wanted}
use Rattle.fj_statement.specs.declared.deck.Variable.{Variable}
use Rattle.fj_statement.specs.declared.unit.UnitRef.TheVariants as unit
use Rattle.fj_statement.specs.declared.statement.Operand.{Operand}
use Rattle.fj_statement.specs.declared.statement.Statement.{Statement}
use Rattle.fj_statement.specs.declared.statement.Statement.TheVariants as statement
use Rattle.fj_meaning.specs.Needs.{number_of, number_of_subject, unit_about, unit_of_file}
use Rattle.fj_meaning.specs.State.{State, Files, start}
use Rattle.fj_meaning.specs.Statement.{Stated, cut}
use Rattle.fj_meaning.specs.Telling.{is_asynchronous, waited}
use Rattle.fj_meaning_jobs.specs.Acting.{asks_connection}
use Rattle.fj_meaning_jobs.specs.Core.{Connected}
use Rattle.fj_meaning_jobs.specs.Desks.{Desk}
use Rattle.fj_meaning_jobs.specs.Desking.{fresh}
use Rattle.fj_meaning_turns.specs.Run.{Run}
use Rattle.fj_meaning_turns.specs.Cutting.{StopAt}
use Rattle.fj_meaning_cut.specs.Others.{names_in, has_file}

-- The statement waits for jobs at that unit, if it waits for any: for the pending transfers of the unit, or for what it does itself with
-- the unit's file. A READ or WRITE that will be pending waits for none. INQUIRE waits where it asks what only the connection knows, and
-- where the transfers of the unit that it names are known to be done: by FILE= it names none. END waits at each unit.
abbrev pub WaitsBy : (List ℕ → Option ℕ) → Statement → ℕ → Type 0
WaitsBy unit_named (statement.Assign to from) number = ⊥
WaitsBy unit_named (statement.OpenUnit u spec iostat) number = number_of u ≡ Some number
WaitsBy unit_named (statement.CloseUnit u keep iostat) number = number_of u ≡ Some number
WaitsBy unit_named (statement.WaitFor u id iostat) number = number_of u ≡ Some number
WaitsBy unit_named (statement.Move how u iostat) number = number_of u ≡ Some number
WaitsBy unit_named (statement.Inquire about asked id iostat done) number =
    ((list_any (λ (w : Wanted). asks_connection w.what) asked ≡ true) × (unit_about unit_named about ≡ Some number))
    ⊎ ((done ≡ Some true) × (number_of_subject about ≡ Some number))
WaitsBy unit_named (statement.Transfer t) number = (is_asynchronous t ≡ false) × (number_of t.unit ≡ Some number)
WaitsBy unit_named statement.End number = Unit {0}

abbrev pub WaitsAt : State → Statement → ℕ → Type 0
WaitsAt s what number = WaitsBy (unit_of_file s.units) what number

-- any statement but END waits at one unit at most
abbrev pub WaitsAtOneUnit : Type 0
WaitsAtOneUnit = (s : State) (what : Statement) (number other : ℕ) → what ≢ statement.End → WaitsAt s what number → WaitsAt s what other → number ≡ other

-- INQUIRE asks what only the connection knows
abbrev pub asks_look : Statement → Bool
asks_look (statement.Inquire about asked id iostat _) = list_any (λ (w : Wanted). asks_connection w.what) asked
asks_look _ = false

-- ID= of WAIT and INQUIRE
abbrev pub id_of : Statement → Option Operand
id_of (statement.WaitFor u id iostat) = id
id_of (statement.Inquire about asked id iostat _) = id
id_of _ = None

-- at the unit at which a statement waits it waits for the transfers that WAIT there waits for; but END waits for all, and INQUIRE may wait
-- for a look
abbrev pub WaitsAsWait : Type 0
WaitsAsWait = (s : State) (what : Statement) (number : ℕ) → what ≢ statement.End → asks_look what ≡ false → WaitsAt s what number →
    waited s what ≡ waited s (statement.WaitFor (unit.Number number) (id_of what) None)

-- a unit at which the statement waits, and the name of the file that is connected to it
pub record AwaitedUnit (s : State) (what : Statement) : Type 0 where
  pub number : ℕ
  pub waits : WaitsAt s what number
  pub name : List ℕ
  pub named : names_in s.units number ≡ Some name

-- no unit is at that slot
abbrev pub IsFree : List Connected → ℕ → Type 0
IsFree units slot = list_any (λ (u : Connected). u.slot == slot) units ≡ false

-- A stop of that slot was learnt at the statement, and the execution is cut just before it, in this state: the slot is that of a unit at
-- which the statement waits; or no unit is there, and a connection was on its way.
pub record StopsAt (variables : List Variable) (deck : List Stated) (files : Files) (index : ℕ) (statement : Stated) (slot : ℕ) (run : Run) : Type 0 where
  pub state : State
  pub cut_is : cut variables index deck (start variables files) ≡ Some (statement, state)
  pub place : ((u : AwaitedUnit state statement.0.what) × (has_file run.core.units slot u.name ≡ true)) ⊎ IsFree run.core.units slot

abbrev pub StopsAreAwaited : Type 0
StopsAreAwaited = (variables : List Variable) (deck : List Stated) (files : Files) (slot : ℕ) (run : Run) (desks : List Desk) →
    (stop : StopAt variables deck (fresh variables files) slot run desks) → StopsAt variables deck files stop.index stop.statement slot run
