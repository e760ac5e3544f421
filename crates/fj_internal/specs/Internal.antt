-- READ and WRITE on an internal file (ISO/IEC 1539-1:2004, 9.3): each element of a character variable is one record, of the
-- element's length. A transfer begins at the first one.
use Rattle.std.specs.Prelude.{◌≡◌, ℕ, ◌==◌, ◌||◌, nat_lt, Bool, true, false, List, [], ◌∷◌, length, map, Option, Some, None, unwrap_or, if◌then◌else◌}
use Rattle.std.specs.List.{list_any}
use Rattle.fj_value.specs.Kind.{text_length}
use Rattle.fj_value.specs.Reading.{assigned_text}
use Rattle.fj_value.specs.declared.condition.Condition.{Condition}
use Rattle.fj_value.specs.declared.condition.Condition.TheVariants.{Fine, Error}
use Rattle.fj_value.specs.declared.value.Cell.{Cell}
use Rattle.fj_value.specs.declared.value.Value.{Value}
use Rattle.fj_value.specs.declared.value.Value.TheVariants as value
use Rattle.fj_modes.specs.Modes.{modes_asked}
use Rattle.fj_modes.specs.OpenSpec.{bare}
use Rattle.fj_modes.specs.declared.specifiers.OpenSpec.{OpenSpec}
use Rattle.fj_seqrec.specs.Lines.{lines}
use Rattle.fj_list.specs.ListText.{text_of}
use Rattle.fj_moved.specs.Load.{with_undefined}
use Rattle.fj_moved.specs.declared.moved.Moved.{Moved}
use Rattle.fj_control.specs.Steps.{Given}
use Rattle.fj_connect.specs.Connection.{Connection}
use Rattle.fj_connect.specs.Opening.{connected}
use Rattle.fj_transfer.specs.Printing.{IsRecords}
use Rattle.fj_transfer.specs.Transfer.{Done, transfer_by}
use Rattle.fj_transfer.specs.declared.transfer.TransferSpec.{TransferSpec}

-- ---- the records

abbrev pub characters_of : Value → List ℕ
characters_of (value.Chars text) = text
characters_of _ = []

-- the characters of the elements
abbrev pub records_of : List Cell → List (List ℕ)
records_of elements = map (λ (cell : Cell). characters_of cell.value) elements

-- the length of the elements, which are all of one kind
abbrev pub record_length : List Cell → ℕ
record_length [] = 0
record_length (cell ∷ cells) = unwrap_or (text_length cell.kind) 0

-- a file of these bytes as OPEN with such specifiers connects it; its name is of no account
abbrev pub file_of : OpenSpec → List ℕ → Connection
file_of spec bytes = connected (modes_asked spec) [] bytes

-- ---- READ

-- what a READ leaves in the cells of its items, how many characters its data edit descriptors took, and its condition
pub record Taken : Type 0 where
  pub cells : List Cell
  pub count : Option ℕ
  pub condition : Condition

-- a line feed or a carriage return
abbrev pub is_line_end : ℕ → Bool
is_line_end c = (c == 10) || (c == 13)

abbrev pub holds_line_end : List ℕ → Bool
holds_line_end text = list_any is_line_end text

abbrev pub taken_by : Done → Taken
taken_by done = record { cells = done.cells; count = done.count; condition = done.condition }

-- Error 32 where an element holds the end of a line, before all else (own). Else the elements are read like a file of these
-- records, which is connected by an OPEN without specifiers.
unfoldable pub read_inside : (ℕ → List Given) → List Cell → TransferSpec → Moved → Taken
read_inside control elements spec moved =
    if list_any holds_line_end (records_of elements) then record { cells = with_undefined moved.cells; count = None; condition = Error 32 }
    else taken_by (transfer_by control (file_of bare (text_of (records_of elements))) spec moved)

-- ---- WRITE

-- a record as the value of an element of a length: filled up with blanks, as in an assignment
abbrev pub value_of : ℕ → List ℕ → Value
value_of size text = value.Chars (assigned_text size text)

-- the first elements get these values, and the others keep theirs
abbrev pub set_first : List Value → List Cell → List Cell
set_first [] elements = elements
set_first (v ∷ vs) [] = []
set_first (v ∷ vs) (cell ∷ cells) = record cell { value = v } ∷ set_first vs cells

-- what a WRITE leaves of the elements, and its condition
pub record Put : Type 0 where
  pub elements : List Cell
  pub condition : Condition

-- error 31 where there are more records than elements; it comes after all others (own)
abbrev pub put_records : List (List ℕ) → List Cell → Put
put_records records elements = if nat_lt (length elements) (length records) then record { elements = elements; condition = Error 31 }
    else record { elements = set_first (map (value_of (record_length elements)) records) elements; condition = Fine }

abbrev pub put_if_fine : List ℕ → List Cell → Condition → Put
put_if_fine bytes elements Fine = put_records (lines bytes) elements
put_if_fine bytes elements condition = record { elements = elements; condition = condition }

-- The records are the lines of what the WRITE puts into an empty file, which is connected by an OPEN with the elements' length
-- as RECL=. A condition other than Fine leaves the elements.
unfoldable pub written_inside : (ℕ → List Given) → List Cell → TransferSpec → Moved → Put
written_inside control elements spec moved =
    let done = transfer_by control (file_of (record bare { recl = Some (record_length elements) }) []) spec moved in
    put_if_fine done.connection.bytes elements done.condition

-- ---- the statements

-- a READ that names no record and no byte
pub record IsInput (spec : TransferSpec) : Type 0 where
  pub input : spec.input ≡ true
  pub rec : spec.rec ≡ None
  pub pos : spec.pos ≡ None

-- a formatted WRITE that names no record and no byte
pub record IsOutput (spec : TransferSpec) : Type 0 where
  pub output : spec.input ≡ false
  pub rec : spec.rec ≡ None
  pub pos : spec.pos ≡ None
  pub records : IsRecords spec.layout
