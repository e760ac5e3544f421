-- What a statement transfers, as cells with an order.
use Rattle.std.specs.Prelude.{◌+◌, List, [], ◌∷◌, length, map}
use Rattle.std.specs.List.{range_with_len}
use Rattle.fj_value.specs.declared.kind.Kind.{Kind}
use Rattle.fj_value.specs.declared.place.Place.{Place}
use Rattle.fj_value.specs.declared.value.Cell.{Cell}
use Rattle.fj_value.specs.declared.value.Value.{Value}
use Rattle.fj_value.specs.declared.value.Value.TheVariants.{Undefined}
use Rattle.fj_moved.specs.declared.moved.Moved.{Moved}
use Rattle.fj_moved.specs.declared.moved.Row.{Row}
use Rattle.fj_moved.specs.declared.load.Shape.{Shape}
use Rattle.fj_moved.specs.declared.load.Shape.TheVariants as shape

-- the cells of values from a place on
abbrev pub row_cells : Place → Kind → List Value → List Cell
row_cells place kind [] = []
row_cells place kind (v ∷ vs) = record { place = place; kind = kind; value = v } ∷ row_cells (record place { index = place.index + 1 }) kind vs

-- the items of a row are its cells, one behind the other
abbrev pub moved_row : Row → Moved
moved_row row = record { cells = row_cells row.first row.kind row.values; order = range_with_len 0 (length row.values) }

abbrev pub moved_by : Shape → Moved
moved_by (shape.Cells moved) = moved
moved_by (shape.Row row) = moved_row row

-- the same cells without their values
abbrev pub with_undefined : List Cell → List Cell
with_undefined cells = map (λ (cell : Cell). record cell { value = Undefined }) cells
