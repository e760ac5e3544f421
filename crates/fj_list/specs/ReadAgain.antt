-- What is written with delimiters is read again.
use Rattle.std.specs.Prelude.{◌≡◌, ℕ, List, [], ◌∷◌, Some}
use Rattle.fj_value.specs.Kind.{IsOfKind}
use Rattle.fj_value.specs.declared.edit.EditModes.{EditModes}
use Rattle.fj_value.specs.declared.value.Cell.{Cell}
use Rattle.fj_value.specs.declared.value.Value.{Value}
use Rattle.fj_value.specs.declared.condition.Condition.{Condition}
use Rattle.fj_value.specs.declared.condition.Condition.TheVariants.{Fine}
use Rattle.fj_list.specs.ListText.{mark_of, listed}
use Rattle.fj_list.specs.ListInput.{list_input}
use Rattle.fj_moved.specs.Cells.{kind_at, with_value}

-- each item's cell has the kind of its value
abbrev pub AreOfKinds : List Cell → List ℕ → List Value → Type 0
AreOfKinds cells [] [] = Unit {0}
AreOfKinds cells [] (v ∷ vs) = ⊥
AreOfKinds cells (at ∷ order) [] = ⊥
AreOfKinds cells (at ∷ order) (v ∷ vs) = IsOfKind (kind_at cells at) v × AreOfKinds cells order vs

-- each item's cell gets its value, one after another
abbrev pub with_values : List Cell → List ℕ → List Value → List Cell
with_values cells [] vs = cells
with_values cells (at ∷ order) [] = cells
with_values cells (at ∷ order) (v ∷ vs) = with_values (with_value cells at v) order vs

-- Under DELIM='APOSTROPHE' or 'QUOTE', what is written of values is read under the same modes, into items of the same
-- kinds, as these values. No record is left, and what stands behind the records is not met.
abbrev pub AreReadAgain : EditModes → List Value → Type 0
AreReadAgain modes values = (ending : Condition) (cells : List Cell) (order : List ℕ) (mark : ℕ) → mark_of modes.delim ≡ Some mark → AreOfKinds cells order values
    → list_input modes.comma (listed modes values) ending cells order ≡ record { cells = with_values cells order values; condition = Fine; left = [] }

abbrev pub ValuesAreReadAgain : Type 0
ValuesAreReadAgain = (modes : EditModes) (values : List Value) → AreReadAgain modes values
