-- What holds of units and files (ISO/IEC 1539-1:2004, 9.4), and what telling, assignment and transfers on internal files leave alone.
use Rattle.std.specs.Prelude.{◌≡◌, ◌≢◌, ℕ, ◌<◌, ◌≤◌, ◌==◌, if◌then◌else◌, Bool, true, List, map, Some, None, length}
use Rattle.std.specs.List.{All, AllPairs, list_any}
use Rattle.fj_statement.specs.declared.deck.Variable.{Variable}
use Rattle.fj_statement.specs.Units.{number_of}
use Rattle.fj_statement.specs.declared.unit.InternalFile.{InternalFile}
use Rattle.fj_statement.specs.declared.unit.UnitRef.TheVariants.{Internal}
use Rattle.fj_statement.specs.declared.statement.Operand.{Operand}
use Rattle.fj_statement.specs.declared.statement.Transfer.{Transfer}
use Rattle.fj_statement.specs.declared.statement.Statement.TheVariants as statement
use Rattle.fj_control.specs.Steps.{Given}
use Rattle.fj_connect.specs.Connection.{Connection}
use Rattle.fj_connect.specs.Positions.{ended}
use Rattle.fj_meaning.specs.Connecting.{most_units}
use Rattle.fj_meaning.specs.Telling.{after_tells}
use Rattle.fj_meaning.specs.State.{State, Files, Unit, Entry, found, all_closed}
use Rattle.fj_meaning.specs.Statement.{Stated, step, own}
use Rattle.fj_meaning.specs.Reaching.{reached}

-- units are in ascending order, and at most sixteen
abbrev pub Ascends : List Unit → Type 0
Ascends units = AllPairs (λ (u v : Unit). u.number < v.number) units

abbrev pub UnitsAscend : Type 0
UnitsAscend = (variables : List Variable) (sts : List Stated) (files : Files) → let s = reached variables sts files in Ascends s.units × (length s.units ≤ most_units)

-- a file is connected to one unit at the most
abbrev pub OneUnit : List Unit → Type 0
OneUnit units = All (λ (u : Unit). All (λ (v : Unit). u.connection.name ≡ v.connection.name → u.number ≡ v.number) units) units

-- and is not among the others then
abbrev pub Away : State → Type 0
Away s = All (λ (u : Unit). s.files u.connection.name ≡ None) s.units

abbrev pub FilesAreApart : Type 0
FilesAreApart = (variables : List Variable) (sts : List Stated) (files : Files) → let s = reached variables sts files in OneUnit s.units × Away s

-- a pending transfer's unit is connected
abbrev pub is_connected : List Unit → ℕ → Bool
is_connected units number = list_any (λ (u : Unit). u.number == number) units

abbrev pub PendingAreConnected : Type 0
PendingAreConnected = (variables : List Variable) (sts : List Stated) (files : Files) → let s = reached variables sts files in
    All (λ (e : Entry). is_connected s.units e.unit ≡ true) s.book

-- the connections by unit
abbrev pub joined : Unit → ℕ × Connection
joined u = (u.number, u.connection)

abbrev pub connections : State → List (ℕ × Connection)
connections s = map joined s.units

-- telling changes no connection, no file and no output
abbrev pub TellingChangesNoFile : Type 0
TellingChangesNoFile = (variables : List Variable) (line : ℕ) (told : List Entry) (s : State) → let after = after_tells variables line told s in
    (connections after ≡ connections s) × (after.files ≡ s.files) × (after.output ≡ s.output) × (after.next ≡ s.next)

-- an assignment changes nothing but variables, so a pending output's values are those at its initiation
abbrev pub AssignmentChangesVariables : Type 0
AssignmentChangesVariables = (variables : List Variable) (line : ℕ) (to from : Operand) (control : ℕ → List Given) (s : State) →
    let after = (step variables (record { line = line; what = statement.Assign to from }, control) s).0 in after ≡ record s { vars = after.vars }

-- and so does a READ or WRITE on an internal file (9.3)
abbrev pub InternalTransfersChangeVariables : Type 0
InternalTransfersChangeVariables = (variables : List Variable) (line : ℕ) (t : Transfer) (file : InternalFile) (control : ℕ → List Given) (s : State) → t.unit ≡ Internal file →
    let after = (step variables (record { line = line; what = statement.Transfer t }, control) s).0 in after ≡ record s { vars = after.vars }

-- where all units are closed, as at END and at a stop, the file of each has its bytes, with the line feed of a record that is open,
-- or is gone where it is a scratch file; all others stay
abbrev pub ClosingLeavesEach : Type 0
ClosingLeavesEach = (variables : List Variable) (sts : List Stated) (files : Files) → let s = reached variables sts files in
    All (λ (u : Unit). (all_closed s).files u.connection.name ≡ (if u.connection.modes.scratch then None else Some (ended u.connection).bytes)) s.units
    × ((name : List ℕ) → All (λ (u : Unit). u.connection.name ≢ name) s.units → (all_closed s).files name ≡ s.files name)

-- a transfer that becomes pending does to the file of its unit what it does at once, where the unit is not halted
abbrev pub later : Transfer → Transfer
later t = record t { asynchronous = Some true }

abbrev pub at_once : Transfer → Transfer
at_once t = record t { asynchronous = None; id = None }

abbrev pub LaterIsAsAtOnce : Type 0
LaterIsAsAtOnce = (control : ℕ → List Given) (variables : List Variable) (s : State) (t : Transfer) (number : ℕ) (u : Unit) →
    number_of t.unit ≡ Some number → found s.units number ≡ Some u → u.connection.modes.asynchronous ≡ true → u.halt ≡ None →
    connections (own control variables s (statement.Transfer (later t))).0 ≡ connections (own control variables s (statement.Transfer (at_once t))).0
