-- The cells of a statement, by their number.
use Rattle.std.specs.Prelude.{ℕ, zero, suc, List, [], ◌∷◌, map, slice_get}
use Rattle.std.specs.Option.{option_map_or}
use Rattle.fj_value.specs.declared.kind.Kind.{Kind}
use Rattle.fj_value.specs.declared.kind.Kind.TheVariants.{Logical}
use Rattle.fj_value.specs.declared.place.Place.{Place}
use Rattle.fj_value.specs.declared.value.Cell.{Cell}
use Rattle.fj_value.specs.declared.value.Value.{Value}

abbrev pub kind_at : List Cell → ℕ → Kind
kind_at cells at = option_map_or (λ (cell : Cell). cell.kind) (slice_get cells at) Logical

-- a cell gets a value
abbrev pub with_value : List Cell → ℕ → Value → List Cell
with_value [] at v = []
with_value (cell ∷ cells) zero v = record cell { value = v } ∷ cells
with_value (cell ∷ cells) (suc at) v = cell ∷ with_value cells at v

-- the places and kinds of cells
abbrev pub places_of : List Cell → List (Place × Kind)
places_of cells = map (λ (cell : Cell). (cell.place, cell.kind)) cells
