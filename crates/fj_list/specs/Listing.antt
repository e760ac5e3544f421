-- List-directed output (ISO/IEC 1539-1:2004, 10.9.2) as actions on the record at hand.
use Rattle.std.specs.Prelude.{ℕ, ◌+◌, ◌≡◌, if◌then◌else◌, Bool, false, List, [], ◌∷◌, ◌++◌, length}
use Rattle.fj_value.specs.declared.edit.EditModes.{EditModes}
use Rattle.fj_value.specs.declared.value.Value.{Value}
use Rattle.fj_line.specs.Actions.{Action, put, end_record}
use Rattle.fj_line.specs.Records.{texts_of, MeetNone}
use Rattle.fj_list.specs.ListText.{shown, gap, is_characters, passes_columns, listed}

-- a value's text behind so many characters, with what stands before it; where it would pass the last column, as the first
-- of a new record
abbrev pub next_text : ℕ → List ℕ → List ℕ → List Action
next_text width before text = if passes_columns (width + length (before ++ text)) then end_record ∷ put (32 ∷ []) ∷ put text ∷ [] else put (before ++ text) ∷ []

abbrev pub width_behind : ℕ → List ℕ → List ℕ → ℕ
width_behind width before text = if passes_columns (width + length (before ++ text)) then 1 + length text else width + length (before ++ text)

-- values behind so many characters of a record, the last of which are a character value or not
abbrev pub texts_behind : EditModes → ℕ → Bool → List Value → List Action
texts_behind modes width characters [] = []
texts_behind modes width characters (v ∷ vs) =
    let before = gap modes characters (is_characters v) in
    next_text width before (shown modes v) ++ texts_behind modes (width_behind width before (shown modes v)) (is_characters v) vs

-- a value's text behind a blank, which stands before each value that is not of type CHARACTER
abbrev pub behind_blank : EditModes → Value → List ℕ
behind_blank modes v = 32 ∷ shown modes v

abbrev pub IsNoText : Value → Type 0
IsNoText v = is_characters v ≡ false

-- a blank, and the values
abbrev pub list_texts : EditModes → List Value → List Action
list_texts modes [] = put (32 ∷ []) ∷ []
list_texts modes (v ∷ vs) = put (32 ∷ []) ∷ put (shown modes v) ∷ texts_behind modes (1 + length (shown modes v)) (is_characters v) vs

-- and the end of the last record
abbrev pub list_actions : EditModes → List Value → List Action
list_actions modes values = list_texts modes values ++ end_record ∷ []

-- None of them is a condition, and their texts are the records of the values, all of which are ended.
abbrev pub RecordsAreListed : Type 0
RecordsAreListed = (modes : EditModes) (values : List Value) → MeetNone (list_actions modes values) × (texts_of (list_actions modes values) ≡ listed modes values ++ [] ∷ [])
