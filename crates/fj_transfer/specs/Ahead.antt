-- The records that list-directed and namelist input has still to read (ISO/IEC 1539-1:2004, 9.5.3), and where it began.
use Rattle.std.specs.Prelude.{◌≡◌, ℕ, ◌+◌, ◌-◌, ◌<◌, ◌≤◌, nat_lt, true, false, List, [], ◌∷◌, length, drop, Option, Some, None, unwrap_or, if◌then◌else◌}
use Rattle.fj_value.specs.declared.edit.EditModes.{EditModes}
use Rattle.fj_value.specs.declared.edit.Delim.TheVariants.{Plain}
use Rattle.fj_modes.specs.declared.modes.Modes.{Modes}
use Rattle.fj_connect.specs.declared.spot.Spot.{Spot}
use Rattle.fj_value.specs.declared.value.Cell.{Cell}
use Rattle.fj_value.specs.declared.condition.Condition.{Condition}
use Rattle.fj_value.specs.declared.condition.Condition.TheVariants.{EndOfFile, Error}
use Rattle.fj_modes.specs.declared.specifiers.Access.TheVariants.{Stream}
use Rattle.fj_modes.specs.declared.specifiers.Action.TheVariants.{Read}
use Rattle.fj_modes.specs.declared.specifiers.Start.TheVariants.{AsIs}
use Rattle.fj_seqrec.specs.declared.read.RecordRead.{RecordRead}
use Rattle.fj_seqrec.specs.declared.read.RecordRead.TheVariants.{Line, End, TooLong}
use Rattle.fj_list.specs.ListInput.{Outcome}
use Rattle.fj_connect.specs.Connection.{Connection, between, past_record, past_end}
use Rattle.fj_connect.specs.Positions.{ended}
use Rattle.fj_connect.specs.Spot.{size_ended}
use Rattle.fj_connect.specs.declared.spot.Within.TheVariants.{Outside}
use Rattle.fj_transfer.specs.Places.{at_place}
use Rattle.fj_transfer.specs.Transfer.{Ways, records_to_come, condition_to_come, past_records}
use Rattle.fj_transfer.specs.declared.reached.Reached.{Reached}

-- ---- the next record

-- the condition behind the records, none at the end of the file
abbrev pub ending_of : Condition → Option Condition
ending_of EndOfFile = None
ending_of condition = Some condition

-- no fewer than the records still to come in a file of this size
abbrev pub records_bound : Option ℕ → ℕ → ℕ
records_bound None size = size + 1
records_bound (Some place) size = size - place

-- what a look at the record at a place, or at the position, answers
abbrev pub IsNextRecord : Option ℕ → Connection → RecordRead → List ℕ → Type 0
IsNextRecord place c (Line next) text = (records_to_come (at_place place c) ≡ text ∷ records_to_come (between c next))
    × (condition_to_come (at_place place c) ≡ condition_to_come (between c next))
    × (past_record (at_place place c) ≡ between c next)
IsNextRecord place c End text = (records_to_come (at_place place c) ≡ []) × (condition_to_come (at_place place c) ≡ EndOfFile)
IsNextRecord place c TooLong text = (records_to_come (at_place place c) ≡ []) × (condition_to_come (at_place place c) ≡ Error 15)

-- the same, told or not: the place behind the record is one of a file of this size, behind the place where it begins
abbrev pub GoesOn : Option ℕ → ℕ → RecordRead → Type 0
GoesOn place size (Line next) = (next ≤ size) × (records_bound (Some next) size < records_bound place size)
GoesOn place size End = Unit {0}
GoesOn place size TooLong = Unit {0}

-- the rest of a record of which so many characters were read, by what a look at it as a record answers
abbrev pub rest_read : ℕ → ℕ → ℕ → List ℕ → RecordRead → RecordRead
rest_read limit begun size text (Line next) = if nat_lt limit (begun + length text) then TooLong else Line next
rest_read limit begun size text End = if nat_lt limit (begun + length text) then TooLong else Line size
rest_read limit begun size text TooLong = TooLong

-- ---- where an input began, and where it has come

-- the connection, with the bytes of the file if it tells them, the size of the file, and the place
pub record Begun : Type 0 where
  pub connection : Connection
  pub size : ℕ
  pub place : Option ℕ

-- one of them
abbrev pub nowhere : Begun
nowhere =
    let edit : EditModes = record { blank_zero = false; comma = false; delim = Plain; pad = false; plus = false } in
    let modes : Modes = record { access = Stream; formatted = true; recl = 1; action = Read; asynchronous = false; scratch = false; start = AsIs; edit = edit } in
    let spot : Spot = record { at = 0; start = 0; within = Outside; after_end = false; next_number = 1 } in
    record { connection = record { modes = modes; name = []; bytes = []; spot = spot }; size = 0; place = None }

-- the connection at a place, or still at its position
abbrev pub come_to : Begun → Option ℕ → Connection
come_to b place = at_place place (ended b.connection)

-- behind the records that were looked at, where so many are left
abbrev pub behind_looked_at : Connection → ℕ → Connection
behind_looked_at c left = past_records (drop left (records_to_come c)) c

-- an input that has come to a place: the records that it has looked at are those that are not left
pub record HasCome (tells : Type 0) (now : Connection) (size : ℕ) (place : Option ℕ) (b : Begun) : Type 0 where
  pub modes : now.modes ≡ b.connection.modes
  pub name : now.name ≡ b.connection.name
  pub spot : now.spot ≡ b.connection.spot
  pub bytes : tells → now.bytes ≡ b.connection.bytes
  pub extent : size ≡ b.size
  pub within : unwrap_or place 0 ≤ size_ended now.spot size
  pub fewer : tells → length (records_to_come (come_to b place)) ≤ length (records_to_come (come_to b b.place))
  pub behind : tells → behind_looked_at (come_to b b.place) (length (records_to_come (come_to b place))) ≡ come_to b place

-- what an input leaves that has come to a place, by its condition
abbrev pub ways_from : Connection → Option ℕ → Ways
ways_from old place = record { old = old; end_of_file = past_end (ended old); end_of_record = old; fine = at_place place (ended old) }

-- an input comes to this outcome
pub record Comes (reached : Reached) (cells : List Cell) (c : Connection) (place : Option ℕ) (o : Outcome) : Type 0 where
  pub condition_is : reached.condition ≡ o.condition
  pub cells_are : cells ≡ o.cells
  pub place_is : at_place reached.place c ≡ behind_looked_at (at_place place c) (length o.left)
