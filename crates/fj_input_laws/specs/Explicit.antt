-- When an input under an explicit format meets which condition, and what it leaves then (ISO/IEC 1539-1:2004, 9.5.3.4.2, 9.10, 10.6 to
-- 10.8): by records, positions and fields.
use Rattle.std.specs.Prelude.{◌≡◌, ◌≢◌, ◌⊎◌, ℕ, suc, ◌+◌, ◌-◌, ◌<◌, Bool, true, false, List, [], ◌∷◌, ◌++◌, length, take, drop, replicate, slice_get, All, Option, Some, None, unwrap_or, Result, Ok, Err, if◌then◌else◌}
use Rattle.fj_value.specs.declared.edit.Edit.{Edit}
use Rattle.fj_value.specs.declared.edit.EditModes.{EditModes}
use Rattle.fj_value.specs.declared.kind.Kind.{Kind}
use Rattle.fj_value.specs.declared.value.Cell.{Cell}
use Rattle.fj_value.specs.declared.value.Value.{Value}
use Rattle.fj_value.specs.declared.value.Value.TheVariants.{Undefined}
use Rattle.fj_value.specs.declared.condition.Condition.{Condition}
use Rattle.fj_value.specs.declared.condition.Condition.TheVariants.{Fine, EndOfFile, EndOfRecord, Error}
use Rattle.fj_edit_in.specs.InputField.{input_field}
use Rattle.fj_line.specs.Line.{position_behind}
use Rattle.fj_line.specs.declared.moves.Move.TheVariants.{Ahead}
use Rattle.fj_control.specs.Paired.{Part, item, string, move, slash, lacking, items_in}
use Rattle.fj_moved.specs.Cells.{with_value, places_of}
use Rattle.fj_moved.specs.Moved.{value_at}
use Rattle.fj_input_laws.specs.Fields.{IsFor, field_width}
use Rattle.fj_input_laws.specs.Source.{Source, Place}

-- ---- positions and fields

-- A field and a move take the position along, a slash takes it to the left tab limit of the next record; nothing else moves it.
abbrev pub place_past : Source → Part ℕ → Place → Place
place_past s (item modes e cell) place = record place { at = position_behind (Ahead (field_width e (s.kinds cell))) place.at }
place_past s (string text) place = place
place_past s (move how) place = record place { at = position_behind how place.at }
place_past s slash place = record { number = suc place.number; at = 0 }
place_past s lacking place = place

abbrev pub place_behind : Source → List (Part ℕ) → Place → Place
place_behind s [] place = place
place_behind s (part ∷ more) place = place_behind s more (place_past s part place)

abbrev pub text_at : Source → Place → List ℕ
text_at s place = unwrap_or (s.record_text place.number) []

-- the characters of the record that are there for the field of an item
abbrev pub characters : Source → Place → Edit → ℕ → List ℕ
characters s place e cell = take (field_width e (s.kinds cell)) (drop place.at (text_at s place))

-- the record has fewer than the field needs
abbrev pub IsShort : Source → Place → Edit → ℕ → Type 0
IsShort s place e cell = length (characters s place e cell) < field_width e (s.kinds cell)

-- the field, filled up with blanks, as a value
abbrev pub field : Source → Place → EditModes → Edit → ℕ → Result Value Condition
field s place modes e cell = let chars = characters s place e cell in
    input_field e (s.kinds cell) modes.blank_zero (chars ++ replicate (field_width e (s.kinds cell) - length chars) 32)

-- ---- conditions

-- What a part meets at a place. 12 comes whatever the record has. A field that is too short under PAD='NO' is 30, or the end of the
-- record where the statement does not advance, whatever its characters. One that is filled up comes to its condition first, and
-- else to the end of the record where the statement does not advance.
pub data Meets (s : Source) (place : Place) : Part ℕ → Condition → Type 0 where
  descriptor_is_wanting : Meets s place lacking (Error 11)
  string_is_met : {text : List ℕ} → Meets s place (string text) (Error 29)
  records_have_ended : s.record_text (suc place.number) ≡ None → Meets s place slash s.behind
  descriptor_is_for_others : {modes : EditModes} {e : Edit} {cell : ℕ} → (IsFor e (s.kinds cell) → ⊥) → Meets s place (item modes e cell) (Error 12)
  record_is_short : {modes : EditModes} {e : Edit} {cell : ℕ} → IsFor e (s.kinds cell) → IsShort s place e cell → modes.pad ≡ false → s.advance ≡ true → Meets s place (item modes e cell) (Error 30)
  record_has_ended : {modes : EditModes} {e : Edit} {cell : ℕ} → IsFor e (s.kinds cell) → IsShort s place e cell → modes.pad ≡ false → s.advance ≡ false → Meets s place (item modes e cell) EndOfRecord
  field_has_no_value : {modes : EditModes} {e : Edit} {cell : ℕ} {condition : Condition} → IsFor e (s.kinds cell) → (IsShort s place e cell → modes.pad ≡ true) → field s place modes e cell ≡ Err condition
      → Meets s place (item modes e cell) condition
  record_ends_in_field : {modes : EditModes} {e : Edit} {cell : ℕ} {v : Value} → IsFor e (s.kinds cell) → IsShort s place e cell → modes.pad ≡ true → s.advance ≡ false → field s place modes e cell ≡ Ok v
      → Meets s place (item modes e cell) EndOfRecord

-- no part meets a condition
abbrev pub AllPass : Source → List (Part ℕ) → Place → Type 0
AllPass s parts place = (front : List (Part ℕ)) (part : Part ℕ) (back : List (Part ℕ)) (condition : Condition) → parts ≡ front ++ part ∷ back → Meets s (place_behind s front place) part condition → ⊥

-- the first part that meets a condition
pub record IsFirst (s : Source) (parts : List (Part ℕ)) (place : Place) (condition : Condition) : Type 0 where
  pub front : List (Part ℕ)
  pub part : Part ℕ
  pub back : List (Part ℕ)
  pub split : parts ≡ front ++ part ∷ back
  pub pass : AllPass s front place
  pub meets : Meets s (place_behind s front place) part condition

-- ---- what is read

-- the characters that data edit descriptors took from records, each as often as it was taken
abbrev pub taken : Source → List (Part ℕ) → Place → ℕ
taken s [] place = 0
taken s (item modes e cell ∷ more) place = length (characters s place e cell) + taken s more (place_past s (item modes e cell) place)
taken s (part ∷ more) place = taken s more (place_past s part place)

abbrev pub AreNot : ℕ → List (Part ℕ) → Type 0
AreNot cell parts = All (λ (n : ℕ). n ≢ cell) (items_in parts)

-- The items are read: each has the value of its field, of the last one where it stands more than once; all other cells are as
-- they were.
pub record AreRead (s : Source) (parts : List (Part ℕ)) (place : Place) (old new : List Cell) : Type 0 where
  pub places : places_of new ≡ places_of old
  pub others : (cell : ℕ) → AreNot cell parts → slice_get new cell ≡ slice_get old cell
  pub items : (front : List (Part ℕ)) (modes : EditModes) (e : Edit) (cell : ℕ) (back : List (Part ℕ)) → parts ≡ front ++ item modes e cell ∷ back → AreNot cell back → cell < length old
      → field s (place_behind s front place) modes e cell ≡ Ok (value_at new cell)

-- At the end of a record the item at hand has its field's value and its characters count, under PAD='YES'; under PAD='NO' it is
-- undefined, and none count.
abbrev pub IsLeft : Source → Place → Part ℕ → List Cell → List Cell → ℕ → Type 0
IsLeft s place (item modes e cell) mid new count =
    (v : Value) × (new ≡ with_value mid cell v) × (modes.pad ≡ true → (field s place modes e cell ≡ Ok v) × (count ≡ length (characters s place e cell))) × (modes.pad ≡ false → (v ≡ Undefined) × (count ≡ 0))
IsLeft s place part mid new count = ⊥
