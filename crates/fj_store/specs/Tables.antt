-- Tables: lists of what stands at the places of each variable.
use Rattle.std.specs.Prelude.{ℕ, zero, suc, List, [], ◌∷◌, slice_get, slice_set, Option, None, option_and_then}
use Rattle.std.specs.Option.{option_map_or}
use Rattle.fj_value.specs.declared.place.Place.{Place}
use Rattle.fj_value.specs.declared.value.Cell.{Cell}

-- the element of an index, of which the first is 1
abbrev pub element_in : {T : Type 0} → ℕ → List T → Option T
element_in zero row = None
element_in (suc n) row = slice_get row n

abbrev pub element_at : {T : Type 0} → List (List T) → Place → Option T
element_at rows place = option_and_then (element_in place.index) (slice_get rows place.var)

abbrev pub row_with : {T : Type 0} → ℕ → T → List T → List T
row_with zero x row = row
row_with (suc n) x row = slice_set row n x

-- the place gets an element
abbrev pub with_element : {T : Type 0} → List (List T) → Place → T → List (List T)
with_element rows place x = option_map_or (λ row. slice_set rows place.var (row_with place.index x row)) (slice_get rows place.var) rows

-- the places of cells get what is made of these
abbrev pub with_cells : {T : Type 0} → (Cell → T) → List Cell → List (List T) → List (List T)
with_cells made [] rows = rows
with_cells made (cell ∷ cells) rows = with_cells made cells (with_element rows cell.place (made cell))
