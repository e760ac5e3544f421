-- What holds of variables that are moved out and come back, in words of their own.
use Rattle.std.specs.Prelude.{◌≡◌, false, List, ◌∷◌, ◌++◌, map, All, Some, None, IsSome, if◌then◌else◌}
use Rattle.fj_value.specs.declared.place.Place.{Place}
use Rattle.fj_value.specs.declared.value.Cell.{Cell}
use Rattle.fj_value.specs.declared.value.Value.{Value}
use Rattle.fj_store.specs.Kinds.{kind_at, of_kind}
use Rattle.fj_moved.specs.Moved.{AreDistinct}
use Rattle.fj_store.specs.Places.{is_among}
use Rattle.fj_store.specs.Variables.{moved_of}
use Rattle.fj_store.specs.Storage.{Storage, value_at, cell_at, without, given_back}
use Rattle.fj_store.specs.Tables.{element_at}

-- each value is of its variable's kind, or undefined
abbrev pub AreOfKinds : Storage → Type 0
AreOfKinds s = (p : Place) (v : Value) → value_at s p ≡ Some v → of_kind (kind_at s.kinds p.var) v ≡ v

-- the cells of a statement have distinct places, whatever its items are
abbrev pub CellsAreDistinct : Type 0
CellsAreDistinct = (items : List Cell) → AreDistinct (moved_of items).cells

-- just the places that are taken out have no value, and all others keep theirs
abbrev pub JustTheseAreOut : Type 0
JustTheseAreOut = (s : Storage) (places : List Place) (p : Place) → value_at (without places s) p ≡ (if is_among places p then None else value_at s p)

-- what is taken out and given back unchanged leaves the variables as they were
abbrev pub AllComesBack : Type 0
AllComesBack = (s : Storage) (places : List Place) → AreOfKinds s → All (λ p. IsSome (value_at s p)) places
    → given_back (moved_of (map (cell_at s) places)).cells (without places s) ≡ s

abbrev pub places_of_cells : List Cell → List Place
places_of_cells cells = map (λ (cell : Cell). cell.place) cells

-- a place that a cell has gets what that cell then holds, as the variable's kind has it (of several cells the last one's); a place
-- that no cell has keeps what it had
pub record CellsComeBack : Type 0 where
  pub comes : (s : Storage) (before behind : List Cell) (cell : Cell) → IsSome (element_at s.values cell.place) → is_among (places_of_cells behind) cell.place ≡ false
      → value_at (given_back (before ++ cell ∷ behind) s) cell.place ≡ Some (of_kind (kind_at s.kinds cell.place.var) cell.value)
  pub stays : (s : Storage) (cells : List Cell) (p : Place) → is_among (places_of_cells cells) p ≡ false → value_at (given_back cells s) p ≡ value_at s p
