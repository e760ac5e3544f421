-- What a READ under an explicit format comes to (ISO/IEC 1539-1:2004, 9.5.3.4.2, 9.5.4, 9.10).
use Rattle.std.specs.Prelude.{◌≡◌, ◌⊎◌, ℕ, ℤ, ◌+◌, Bool, true, List, Option, Some, None, Ok, if◌then◌else◌}
use Rattle.fj_value.specs.declared.value.Cell.{Cell}
use Rattle.fj_value.specs.declared.condition.Condition.{Condition}
use Rattle.fj_value.specs.declared.condition.Condition.TheVariants.{Fine, EndOfFile, EndOfRecord, Error}
use Rattle.fj_format.specs.declared.item.FormatItem.{FormatItem}
use Rattle.fj_control.specs.Paired.{Part, parts}
use Rattle.fj_moved.specs.declared.moved.Moved.{Moved}
use Rattle.fj_connect.specs.Connection.{Connection, past_end}
use Rattle.fj_connect.specs.Positions.{ended}
use Rattle.fj_connect.specs.PositionLaws.{Stands}
use Rattle.fj_transfer.specs.declared.change.EditChange.{EditChange}
use Rattle.fj_transfer.specs.declared.transfer.TransferSpec.{TransferSpec}
use Rattle.fj_transfer.specs.declared.transfer.Layout.TheVariants.{Explicit}
use Rattle.fj_transfer.specs.Change.{changed}
use Rattle.fj_transfer.specs.Transfer.{Done, told_with, with_undefined, unfit, begins_at, transfer}
use Rattle.fj_input_laws.specs.Source.{Source, Place, first_place, source_at, behind_record, inside_record}
use Rattle.fj_input_laws.specs.Explicit.{place_behind, text_at, AllPass, IsFirst, taken, AreRead, IsLeft}

-- a READ, with its format, ADVANCE=, REC=, POS= and modes
abbrev pub reading : List FormatItem → Bool → Option ℤ → Option ℤ → EditChange → TransferSpec
reading f advance number place edit = record { input = true; layout = Explicit f; advance = advance; rec = number; pos = place; edit = edit }

-- all of it is read: the connection is behind the record at hand, or inside it where the statement does not advance
pub record IsRead (s : Source) (b : Connection) (parts : List (Part ℕ)) (moved : Moved) (d : Done) : Type 0 where
  pub condition : d.condition ≡ Fine
  pub cells : AreRead s parts first_place moved.cells d.cells
  pub count : d.count ≡ Some (taken s parts first_place)
  pub connection : let place = place_behind s parts first_place in d.connection ≡ (if s.advance then behind_record b place.number else inside_record b place (text_at s place))

-- end-of-record at a part: those before it are read, later items keep their values, and the connection is behind the record
pub record IsAtEndOfRecord (s : Source) (b : Connection) (front : List (Part ℕ)) (part : Part ℕ) (moved : Moved) (d : Done) : Type 0 where
  pub condition : d.condition ≡ EndOfRecord
  pub mid : List Cell
  pub more : ℕ
  pub before : AreRead s front first_place moved.cells mid
  pub left : IsLeft s (place_behind s front first_place) part mid d.cells more
  pub count : d.count ≡ Some (taken s front first_place + more)
  pub connection : d.connection ≡ behind_record b (place_behind s front first_place).number

-- An error leaves the connection as it was before the statement; the end of the file leaves it behind the last record. All items
-- are undefined then, and there is no count.
abbrev pub IsTold : Connection → Connection → Moved → Condition → Done → Type 0
IsTold old b moved Fine d = ⊥
IsTold old b moved EndOfRecord d = ⊥
IsTold old b moved EndOfFile d = d ≡ told_with (past_end b) (with_undefined moved.cells) EndOfFile
IsTold old b moved (Error n) d = d ≡ told_with old (with_undefined moved.cells) (Error n)

-- what is told of the first part that meets a condition
abbrev pub Comes : Connection → Source → Connection → List (Part ℕ) → Part ℕ → Moved → Condition → Done → Type 0
Comes old s b front part moved EndOfRecord d = IsAtEndOfRecord s b front part moved d
Comes old s b front part moved condition d = IsTold old b moved condition d

-- Before all else there is to be a record. Then what is told is the condition of the first part that meets one, and only where
-- none does the statement is fine.
pub record IsExact (old : Connection) (s : Source) (b : Connection) (parts : List (Part ℕ)) (moved : Moved) (d : Done) : Type 0 where
  pub no_record : s.record_text 0 ≡ None → IsTold old b moved s.behind d
  pub fine : (text : List ℕ) → s.record_text 0 ≡ Some text → AllPass s parts first_place → IsRead s b parts moved d
  pub tells : (text : List ℕ) → s.record_text 0 ≡ Some text → (condition : Condition) (first : IsFirst s parts first_place condition) → Comes old s b first.front first.part moved condition d
  pub one : AllPass s parts first_place ⊎ ((condition : Condition) × IsFirst s parts first_place condition)

-- A READ that fits its connection, from where it begins.
abbrev pub InputIsExact : Type 0
InputIsExact = (c b : Connection) (f : List FormatItem) (advance : Bool) (number place : Option ℤ) (edit : EditChange) (moved : Moved) → Stands c
    → let spec = reading f advance number place edit in unfit c.modes spec ≡ Fine → begins_at spec (ended c) ≡ Ok b
    → IsExact c (source_at b advance moved.cells) b (parts (changed edit c.modes.edit) f moved.order) moved (transfer c spec moved)
