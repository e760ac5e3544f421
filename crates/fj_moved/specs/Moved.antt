-- The cells of a statement: the values that it transfers, and whether their places are distinct.
use Rattle.std.specs.Prelude.{◌≡◌, ℕ, ◌<◌, ◌==◌, ◌&&◌, ◌||◌, Bool, false, List, [], ◌∷◌, length, map, All, slice_get}
use Rattle.std.specs.List.{list_any}
use Rattle.std.specs.Option.{option_map_or}
use Rattle.fj_value.specs.declared.place.Place.{Place}
use Rattle.fj_value.specs.declared.value.Cell.{Cell}
use Rattle.fj_value.specs.declared.value.Value.{Value}
use Rattle.fj_value.specs.declared.value.Value.TheVariants.{Undefined}
use Rattle.fj_moved.specs.declared.moved.Moved.{Moved}

-- the value of a cell
abbrev pub value_at : List Cell → ℕ → Value
value_at cells at = option_map_or (λ (cell : Cell). cell.value) (slice_get cells at) Undefined

-- the value of each item, in the order of the items
abbrev pub values_of : Moved → List Value
values_of moved = map (value_at moved.cells) moved.order

-- each item has a cell
abbrev pub IsOrdered : Moved → Type 0
IsOrdered moved = All (λ at. at < length moved.cells) moved.order

abbrev pub same_place : Place → Place → Bool
same_place a b = (a.var == b.var) && (a.index == b.index)

abbrev pub is_among : List Place → Place → Bool
is_among places place = list_any (same_place place) places

-- a place stands twice
abbrev pub has_twice : List Place → Bool
has_twice [] = false
has_twice (place ∷ places) = is_among places place || has_twice places

-- no two cells have the same place
abbrev pub AreDistinct : List Cell → Type 0
AreDistinct cells = has_twice (map (λ (cell : Cell). cell.place) cells) ≡ false
