-- Variables: a value at each place.
use Rattle.std.specs.Prelude.{◌==◌, Bool, List, [], ◌∷◌, ◌++◌, length, if◌then◌else◌, unwrap_or}
use Rattle.std.specs.List.{position_or_len}
use Rattle.fj_value.specs.declared.place.Place.{Place}
use Rattle.fj_value.specs.declared.value.Cell.{Cell}
use Rattle.fj_value.specs.declared.value.Value.{Value}
use Rattle.fj_value.specs.declared.value.Value.TheVariants as value
use Rattle.fj_moved.specs.declared.moved.Moved.{Moved}
pub use Rattle.fj_moved.specs.Values.{is_undefined}
use Rattle.fj_store.specs.Places.{same_place}
use Rattle.fj_store.specs.Tables.{element_at, with_element, with_cells}

-- by variable, the values of its elements
abbrev pub Variables : Type 0
Variables = List (List Value)

-- the value at a place, which is undefined where there is no such place
abbrev pub value_at : Variables → Place → Value
value_at vars place = unwrap_or (element_at vars place) value.Undefined

-- the place gets a value
abbrev pub with_value : Variables → Place → Value → Variables
with_value vars place v = with_element vars place v

-- the places of cells, with no value
abbrev pub undefined_at : List Cell → Variables → Variables
undefined_at cells vars = with_cells (λ (cell : Cell). value.Undefined) cells vars

-- ---- the items of a statement as cells: a place that stands twice has one cell

-- an item: its place, its kind and its value
abbrev pub is_at : Place → Cell → Bool
is_at place cell = same_place place cell.place

abbrev pub with_item : Moved → Cell → Moved
with_item moved cell =
    let at = position_or_len (is_at cell.place) moved.cells in
    record { cells = if at == length moved.cells then moved.cells ++ cell ∷ [] else moved.cells; order = moved.order ++ at ∷ [] }

abbrev pub moved_from : Moved → List Cell → Moved
moved_from moved [] = moved
moved_from moved (cell ∷ cells) = moved_from (with_item moved cell) cells

abbrev pub moved_of : List Cell → Moved
moved_of cells = moved_from (record { cells = []; order = [] }) cells
