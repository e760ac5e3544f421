-- Internal files beside external ones that have the same records.
use Rattle.std.specs.Prelude.{◌≡◌, ◌≢◌, ◌⊎◌, ℕ, ◌<◌, ◌≤◌, true, false, List, [], length, drop, All, Any, Some, slice_get}
use Rattle.fj_value.specs.Reading.{assigned_text}
use Rattle.fj_value.specs.declared.condition.Condition.TheVariants.{Fine, Error}
use Rattle.fj_value.specs.declared.kind.Kind.TheVariants as of
use Rattle.fj_value.specs.declared.value.Cell.{Cell}
use Rattle.fj_value.specs.declared.value.Value.TheVariants.{Chars}
use Rattle.fj_modes.specs.Limits.{longest_formatted}
use Rattle.fj_modes.specs.Modes.{usual_edit}
use Rattle.fj_modes.specs.declared.specifiers.Access.TheVariants.{Sequential}
use Rattle.fj_seqrec.specs.Lines.{lines}
use Rattle.fj_list.specs.ConstantLaws.{HaveKinds}
use Rattle.fj_moved.specs.Cells.{places_of}
use Rattle.fj_moved.specs.declared.moved.Moved.{Moved}
use Rattle.fj_control.specs.Steps.{Given}
use Rattle.fj_connect.specs.Connection.{Connection, bytes_behind, begun, missing_feed}
use Rattle.fj_connect.specs.declared.spot.Within.TheVariants.{Outside}
use Rattle.fj_transfer.specs.Transfer.{Done, is_forbidden, transfer_by}
use Rattle.fj_transfer.specs.declared.transfer.TransferSpec.{TransferSpec}
use Rattle.fj_internal.specs.Internal.{IsInput, IsOutput, Put, records_of, record_length, taken_by, read_inside, written_inside}

-- a file that is connected for formatted sequential access, with the modes of editing by default, at a place where a record may begin
pub record StandsAtRecords (c : Connection) : Type 0 where
  pub access : c.modes.access ≡ Sequential
  pub formatted : c.modes.formatted ≡ true
  pub edit : c.modes.edit ≡ usual_edit
  pub within : c.spot.within ≡ Outside
  pub after_end : c.spot.after_end ≡ false

-- no character of it is a line feed or a carriage return
abbrev pub HasNoLineEnd : List ℕ → Type 0
HasNoLineEnd text = All (λ c. (c ≢ 10) × (c ≢ 13)) text

-- A READ takes from elements what it takes from a file whose records behind the position are these: whatever its name, whatever
-- stands before the position, and however its lines end.
abbrev pub ReadsLikeAFile : Type 0
ReadsLikeAFile = (control : ℕ → List Given) (c : Connection) (elements : List Cell) (spec : TransferSpec) (moved : Moved)
    → StandsAtRecords c → is_forbidden c.modes.action true ≡ false → c.modes.recl ≡ longest_formatted → IsInput spec
    → All HasNoLineEnd (records_of elements) → lines (bytes_behind c) ≡ records_of elements
    → read_inside control elements spec moved ≡ taken_by (transfer_by control c spec moved)

-- an element that holds the end of a line is error 32, whatever else the statement would meet
abbrev pub EndsOfLinesAreRefused : Type 0
EndsOfLinesAreRefused = (control : ℕ → List Given) (elements : List Cell) (spec : TransferSpec) (moved : Moved)
    → Any (λ text. Any (λ c. (c ≡ 10) ⊎ (c ≡ 13)) text) (records_of elements) → (read_inside control elements spec moved).condition ≡ Error 32

-- the first elements have these records as an assignment gives them, filled up with blanks, and the others are as before
pub record HaveRecords (records : List (List ℕ)) (size : ℕ) (old new : List Cell) : Type 0 where
  pub first : (k : ℕ) (text : List ℕ) (cell : Cell) → slice_get records k ≡ Some text → slice_get old k ≡ Some cell
      → slice_get new k ≡ Some (record cell { value = Chars (assigned_text size text) })
  pub others : (k : ℕ) → length records ≤ k → slice_get new k ≡ slice_get old k

-- A WRITE puts into elements the records that it puts into a file that has their length as RECL=, at the end of whatever stands
-- there; more records than elements are error 31. What keeps it from writing the file keeps it from changing the elements, with
-- the same condition; only error 25 comes of what stands in the file before.
pub record PutsAlike (c : Connection) (elements : List Cell) (done : Done) (put : Put) : Type 0 where
  pub fits : done.condition ≡ Fine → length (lines (drop c.spot.at done.connection.bytes)) ≤ length elements
      → (put.condition ≡ Fine) × HaveRecords (lines (drop c.spot.at done.connection.bytes)) (record_length elements) elements put.elements
  pub exceeds : done.condition ≡ Fine → length elements < length (lines (drop c.spot.at done.connection.bytes)) → put ≡ record { elements = elements; condition = Error 31 }
  pub fails : done.condition ≢ Fine → done.condition ≢ Error 25 → put ≡ record { elements = elements; condition = done.condition }

abbrev pub WritesLikeAFile : Type 0
WritesLikeAFile = (control : ℕ → List Given) (c : Connection) (elements : List Cell) (spec : TransferSpec) (moved : Moved)
    → StandsAtRecords c → is_forbidden c.modes.action false ≡ false → c.modes.recl ≡ record_length elements → c.spot.at ≡ length c.bytes → begun c ≡ 0 → missing_feed c ≡ [] → IsOutput spec
    → PutsAlike c elements (transfer_by control c spec moved) (written_inside control elements spec moved)

-- No record that a WRITE puts into a file is longer than RECL=, also where a value holds line feeds: so none is cut as an element
-- gets it.
abbrev pub NoRecordIsLonger : Type 0
NoRecordIsLonger = (control : ℕ → List Given) (c : Connection) (spec : TransferSpec) (moved : Moved)
    → StandsAtRecords c → is_forbidden c.modes.action false ≡ false → c.spot.at ≡ length c.bytes → begun c ≡ 0 → missing_feed c ≡ [] → IsOutput spec
    → (transfer_by control c spec moved).condition ≡ Fine → All (λ text. length text ≤ c.modes.recl) (lines (drop c.spot.at (transfer_by control c spec moved).connection.bytes))

-- elements of one length stay of that length, or undefined, and at their places, whatever is written
abbrev pub ElementsKeepTheirKinds : Type 0
ElementsKeepTheirKinds = (control : ℕ → List Given) (elements : List Cell) (spec : TransferSpec) (moved : Moved) (size : ℕ)
    → All (λ (cell : Cell). cell.kind ≡ of.Chars size) elements → HaveKinds elements
    → HaveKinds (written_inside control elements spec moved).elements × (places_of (written_inside control elements spec moved).elements ≡ places_of elements)
