-- READ and WRITE on an internal file of one element.
use Rattle.std.specs.Prelude.{ℕ, ◌≡◌, Bool, if◌then◌else◌, List, [], ◌∷◌}
use Rattle.fj_value.specs.declared.condition.Condition.TheVariants.{Fine}
use Rattle.fj_value.specs.declared.value.Cell.{Cell}
use Rattle.fj_moved.specs.Items.{Output, items_of}
use Rattle.fj_moved.specs.declared.moved.Moved.{Moved}
use Rattle.fj_transfer.specs.Printing.{control_of}
use Rattle.fj_transfer.specs.declared.explicit.Performed.{Performed}
use Rattle.fj_transfer.specs.declared.transfer.TransferSpec.{TransferSpec}
use Rattle.fj_internal.specs.Internal.{Put, characters_of, read_inside, record_length, written_inside}
use Rattle.fj_internal.specs.Records.{taken_with}
use Rattle.fj_internal.specs.declared.one.One.{One}
use Rattle.fj_internal.specs.declared.one.One.TheVariants as one

-- ---- WRITE

-- the element with the value that it gets or keeps
abbrev pub put_one : Cell → One → Put
put_one cell (one.Put v) = record { elements = record cell { value = v } ∷ []; condition = Fine }
put_one cell (one.Kept condition) = record { elements = cell ∷ []; condition = condition }

-- that is what the WRITE of these items leaves, whatever else the element of this length is
abbrev pub PutsOne : ℕ → TransferSpec → List Output → One → Type 0
PutsOne size spec items one = (cell : Cell) (moved : Moved) → record_length (cell ∷ []) ≡ size → items_of moved ≡ items
    → written_inside (control_of spec.layout) (cell ∷ []) spec moved ≡ put_one cell one

-- ---- READ

-- the record that is to come
abbrev pub one_ahead : Bool → List ℕ → List (List ℕ)
one_ahead ahead text = if ahead then text ∷ [] else []

-- a READ leaves these cells of its items and comes to this, whatever else the element of these characters is
abbrev pub TakesOne : List ℕ → TransferSpec → Moved → List Cell → Performed → Type 0
TakesOne text spec moved cells performed = (cell : Cell) → characters_of cell.value ≡ text → taken_with cells performed ≡ read_inside (control_of spec.layout) (cell ∷ []) spec moved
