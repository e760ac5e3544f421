-- What the motions, OPEN of the connected file and CLOSE do to the connection of their unit, and to nothing else
-- (ISO/IEC 1539-1:2004, 9.4.5, 9.4.6, 9.7).
use Rattle.std.specs.Prelude.{◌≡◌, ◌≢◌, ℕ, Bool, true, false, List, Option, Some, None}
use Rattle.fj_value.specs.declared.condition.Condition.{Condition}
use Rattle.fj_value.specs.declared.condition.Condition.TheVariants.{Fine, Error}
use Rattle.fj_value.specs.declared.place.Place.{Place}
use Rattle.fj_modes.specs.Modes.{IsConflict, IsChangeBy}
use Rattle.fj_modes.specs.declared.motion.Motion.{Motion}
use Rattle.fj_modes.specs.declared.motion.Motion.TheVariants as motion
use Rattle.fj_modes.specs.declared.specifiers.OpenSpec.{OpenSpec}
use Rattle.fj_modes.specs.declared.specifiers.FileStatus.TheVariants.{Scratch}
use Rattle.fj_connect.specs.Connection.{Connection}
use Rattle.fj_connect.specs.Positions.{ended}
use Rattle.fj_connect.specs.PositionLaws.{Stands, Errs, IsBack, IsAtStart, IsAtEnd}
use Rattle.fj_connect.specs.declared.spot.Positioning.{Positioning}
use Rattle.fj_connect.specs.declared.spot.Positioning.TheVariants as positioning
use Rattle.fj_control.specs.Steps.{Given}
use Rattle.fj_statement.specs.Units.{number_of}
use Rattle.fj_statement.specs.declared.deck.Variable.{Variable}
use Rattle.fj_statement.specs.declared.unit.UnitRef.{UnitRef}
use Rattle.fj_statement.specs.declared.statement.Statement.TheVariants as statement
use Rattle.fj_meaning.specs.State.{State, Unit, found, with_unit, without_unit}
use Rattle.fj_meaning.specs.Statement.{own, instead}

-- the unit has this connection, and all else is as it was
abbrev pub IsWith : State → Unit → Connection → State → Type 0
IsWith s u c after = after ≡ record s { units = with_unit (record u { connection = c }) s.units }

-- ---- the motions

pub data Positions : Motion → Positioning → Type 0 where
  backspaces : Positions motion.Backspace positioning.Backspace
  rewinds : Positions motion.Rewind positioning.Rewind
  ends_file : Positions motion.Endfile positioning.Endfile

abbrev pub IsMoved : Positioning → Connection → Connection → Type 0
IsMoved positioning.Backspace c after = IsBack c after
IsMoved positioning.Rewind c after = IsAtStart c after
IsMoved positioning.Endfile c after = IsAtEnd c after

-- a motion that is fine: the connection is before the record, at the initial point, or at the end of a file that is cut there
pub record Moves (s : State) (u : Unit) (how : Positioning) (after : State) : Type 0 where
  pub connection : Connection
  pub others : IsWith s u connection after
  pub moved : Stands u.connection → IsMoved how u.connection connection
  pub kept : (connection.name ≡ u.connection.name) × (connection.modes ≡ u.connection.modes)

-- FLUSH does nothing further; of a unit that is not connected a motion is error 1, and an error leaves the connection as it was
abbrev pub MotionsMoveUnits : Type 0
MotionsMoveUnits = (control : ℕ → List Given) (variables : List Variable) (s : State) (how : Motion) (ref : UnitRef) (status : Option Place) (n : ℕ) →
    let done = own control variables s (statement.Move how ref status) in
    number_of ref ≡ Some n →
    (found s.units n ≡ None → done ≡ (s, Error 1))
    × ((u : Unit) → found s.units n ≡ Some u → how ≡ motion.Flush → done ≡ (s, Fine))
    × ((u : Unit) (to : Positioning) (error : ℕ) → found s.units n ≡ Some u → Positions how to → Errs u.connection to error → IsWith s u u.connection done.0 × (done.1 ≡ Error error))
    × ((u : Unit) (to : Positioning) → found s.units n ≡ Some u → Positions how to → ((error : ℕ) → Errs u.connection to error → ⊥) → Moves s u to done.0 × (done.1 ≡ Fine))

-- ---- OPEN of the connected file

-- the statement names no file and asks for no scratch file, or it names the connected one
pub data Reopens (u : Unit) (spec : OpenSpec) : Type 0 where
  names_no_file : spec.file ≡ None → spec.status ≢ Some Scratch → Reopens u spec
  names_its_file : spec.file ≡ Some u.connection.name → Reopens u spec

-- position and bytes stay, and the modes that may change are those of the statement
pub record IsReopened (before : Connection) (spec : OpenSpec) (after : Connection) : Type 0 where
  pub name : after.name ≡ before.name
  pub bytes : after.bytes ≡ before.bytes
  pub spot : after.spot ≡ before.spot
  pub modes : IsChangeBy before.modes spec after.modes

-- what may not change is error 8, and then nothing changes
abbrev pub OpenLeavesPosition : Type 0
OpenLeavesPosition = (control : ℕ → List Given) (variables : List Variable) (s : State) (ref : UnitRef) (spec : OpenSpec) (status : Option Place) (n : ℕ) (u : Unit) →
    let done = own control variables s (statement.OpenUnit ref spec status) in
    number_of ref ≡ Some n → found s.units n ≡ Some u → Reopens u spec →
    (IsConflict u.connection.modes spec → done ≡ (s, Error 8))
    × ((IsConflict u.connection.modes spec → ⊥) → (c : Connection) × IsReopened u.connection spec c × IsWith s u c done.0 × (done.1 ≡ Fine))

-- ---- CLOSE

-- STATUS= of CLOSE, or without it the usual: a scratch file is deleted, and every other is kept
pub data Deletes (u : Unit) : Option Bool → Bool → Type 0 where
  is_told : Deletes u (Some true) false
  is_told_to : Deletes u (Some false) true
  is_scratch : u.connection.modes.scratch ≡ true → Deletes u None true
  is_no_scratch : u.connection.modes.scratch ≡ false → Deletes u None false

-- the unit is no longer connected; its file has its bytes, with the line feed of a record that is open, or is gone; all else is as it was
pub record IsClosed (s : State) (u : Unit) (deleted : Bool) (after : State) : Type 0 where
  pub others : after ≡ record s { units = without_unit u.number s.units; files = after.files }
  pub file : deleted ≡ false → after.files u.connection.name ≡ Some (ended u.connection).bytes
  pub gone : deleted ≡ true → after.files u.connection.name ≡ None
  pub files : (name : List ℕ) → name ≢ u.connection.name → after.files name ≡ s.files name

-- to keep a scratch file is error 4, and nothing changes then; nor does it where the unit is not connected
abbrev pub CloseLeavesFile : Type 0
CloseLeavesFile = (control : ℕ → List Given) (variables : List Variable) (s : State) (ref : UnitRef) (keep : Option Bool) (status : Option Place) (n : ℕ) →
    let done = own control variables s (statement.CloseUnit ref keep status) in
    number_of ref ≡ Some n →
    (found s.units n ≡ None → done ≡ (s, Fine))
    × ((u : Unit) → found s.units n ≡ Some u → u.connection.modes.scratch ≡ true → keep ≡ Some true → done ≡ (s, Error 4))
    × ((u : Unit) (deleted : Bool) → found s.units n ≡ Some u → (u.connection.modes.scratch ≡ true → keep ≢ Some true) → Deletes u keep deleted
    → IsClosed s u deleted done.0 × (done.1 ≡ Fine))

-- where a condition was told the file is closed all the same, and a scratch file is deleted whatever STATUS= says (own)
pub data DeletesAnyway (u : Unit) : Option Bool → Bool → Type 0 where
  scratch_goes : {keep : Option Bool} → u.connection.modes.scratch ≡ true → DeletesAnyway u keep true
  told_to_delete : u.connection.modes.scratch ≡ false → DeletesAnyway u (Some false) true
  told_to_keep : u.connection.modes.scratch ≡ false → DeletesAnyway u (Some true) false
  told_nothing : u.connection.modes.scratch ≡ false → DeletesAnyway u None false

abbrev pub CloseClosesAnyway : Type 0
CloseClosesAnyway = (variables : List Variable) (s : State) (ref : UnitRef) (keep : Option Bool) (status : Option Place) (n : ℕ) →
    let after = instead variables s (statement.CloseUnit ref keep status) in
    number_of ref ≡ Some n →
    (found s.units n ≡ None → after ≡ s)
    × ((u : Unit) (deleted : Bool) → found s.units n ≡ Some u → DeletesAnyway u keep deleted → IsClosed s u deleted after)
