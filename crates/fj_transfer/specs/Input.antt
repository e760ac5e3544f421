-- Input under an explicit format (ISO/IEC 1539-1:2004, 10.1): fields from the record at hand.
use Rattle.std.specs.Prelude.{ℕ, ◌+◌, ◌-◌, ◌==◌, min, Bool, false, List, [], ◌∷◌, ◌++◌, length, take, drop, replicate, Some, None, if◌then◌else◌, Result, Ok, Err}
use Rattle.fj_value.specs.declared.edit.Edit.{Edit}
use Rattle.fj_value.specs.declared.edit.Edit.TheVariants as edit
use Rattle.fj_value.specs.declared.edit.EditModes.{EditModes}
use Rattle.fj_value.specs.declared.kind.Kind.{Kind}
use Rattle.fj_value.specs.declared.kind.Kind.TheVariants.{Chars}
use Rattle.fj_value.specs.declared.value.Cell.{Cell}
use Rattle.fj_value.specs.declared.value.Value.{Value}
use Rattle.fj_value.specs.declared.value.Value.TheVariants.{Undefined}
use Rattle.fj_value.specs.declared.condition.Condition.{Condition}
use Rattle.fj_value.specs.declared.condition.Condition.TheVariants.{Fine, EndOfRecord, Error}
use Rattle.fj_control.specs.Steps.{Given}
use Rattle.fj_edit_in.specs.InputField.{input_field}
use Rattle.fj_moved.specs.Cells.{with_value, kind_at}
use Rattle.fj_connect.specs.Connection.{Connection, in_record}
use Rattle.fj_transfer.specs.AtHand.{AtHand, behind, next_record}
use Rattle.fj_line.specs.Line.{position_behind}
use Rattle.fj_line.specs.declared.moves.Move.TheVariants.{Ahead}
use Rattle.fj_control.specs.Paired.{Part, item, string, move, slash, lacking, paired}

-- Where an input stands: the record at hand, and the position in it, counted from the left tab limit; the cells, and how many
-- characters data edit descriptors took.
pub record Progress : Type 0 where
  pub hand : AtHand
  pub at : ℕ
  pub cells : List Cell
  pub count : ℕ

-- what an input comes to: it goes on, or ends with a condition
pub record Ended : Type 0 where
  pub progress : Progress
  pub condition : Condition

-- how many characters a descriptor takes for an item of a kind; A without a width takes the item's length
abbrev pub width_for : Edit → Kind → ℕ
width_for (edit.Int w m) k = w
width_for (edit.Bits base w m) k = w
width_for (edit.Log w) k = w
width_for (edit.Chars (Some w)) k = w
width_for (edit.Chars None) (Chars n) = n
width_for (edit.Chars None) _ = 0
width_for (edit.General w d) k = w

-- the characters of the record that are there for a field of this width
abbrev pub characters_for : ℕ → Progress → List ℕ
characters_for width p = take width (drop p.at p.hand.text)

abbrev pub stopped : Condition → Progress → Ended
stopped condition p = record { progress = p; condition = condition }

-- the cell gets the value, and the position is behind the field
abbrev pub with_field : ℕ → ℕ → ℕ → Value → Progress → Progress
with_field width taken cell value p = record p { at = position_behind (Ahead width) p.at; cells = with_value p.cells cell value; count = p.count + taken }

-- The value of a field whose characters are there. One that is too short is filled up with blanks, and then in nonadvancing
-- input the record has ended; under PAD='NO' advancing input is in error (30), and nonadvancing input takes no character.
abbrev pub field_read : Bool → Bool → ℕ → List ℕ → ℕ → Result Value Condition → Progress → (Progress → Ended) → Ended
field_read advance pad width chars cell (Err condition) p next = stopped condition p
field_read advance pad width chars cell (Ok value) p next =
    let read = with_field width (length chars) cell value p in
    if length chars == width then next read
    else (if advance then (if pad then next read else stopped (Error 30) p)
    else (if pad then stopped EndOfRecord read else stopped EndOfRecord (record p { cells = with_value p.cells cell Undefined })))

-- condition 12 comes before the record's end is looked at, 13 and 14 only of a field that is there or filled up
abbrev pub is_mismatch : Result Value Condition → Bool
is_mismatch (Err (Error n)) = n == 12
is_mismatch _ = false

abbrev pub without_padding : Bool → ℕ → List ℕ → Result Value Condition → Result Value Condition
without_padding pad width chars result = if pad then result
    else (if length chars == width then result else (if is_mismatch result then result else Ok Undefined))

abbrev pub field_from : Bool → Edit → EditModes → Kind → ℕ → Progress → (Progress → Ended) → Ended
field_from advance e modes kind cell p next =
    let width = width_for e kind in
    let chars = characters_for width p in
    let filled = chars ++ replicate (width - length chars) 32 in
    field_read advance modes.pad width chars cell (without_padding modes.pad width chars (input_field e kind modes.blank_zero filled)) p next

abbrev pub with_record : Result AtHand Condition → Progress → (Progress → Ended) → Ended
with_record (Err condition) p next = stopped condition p
with_record (Ok hand) p next = next (record p { hand = hand; at = 0 })

-- what the format and the items ask for, from the left to the right, up to the first condition
abbrev pub carried_out : Bool → List (Part ℕ) → Progress → Ended
carried_out advance [] p = stopped Fine p
carried_out advance (item modes e cell ∷ more) p = field_from advance e modes (kind_at p.cells cell) cell p (carried_out advance more)
carried_out advance (string s ∷ more) p = stopped (Error 29) p
carried_out advance (move m ∷ more) p = carried_out advance more (record p { at = position_behind m p.at })
carried_out advance (slash ∷ more) p = with_record (next_record (behind p.hand)) p (carried_out advance more)
carried_out advance (lacking ∷ more) p = stopped (Error 11) p

-- Where the connection then stands: behind the record, or in nonadvancing input at the position, which is not behind the end
-- of the record.
abbrev pub left_at : Bool → Progress → Connection
left_at advance p = if advance then behind p.hand
    else (let c = p.hand.connection in in_record c c.spot.start ((c.spot.at - c.spot.start) + min p.at (length p.hand.text)))

abbrev pub explicit_input : Bool → EditModes → List Given → List ℕ → Progress → Ended
explicit_input advance modes control order p = carried_out advance (paired modes control order) p
