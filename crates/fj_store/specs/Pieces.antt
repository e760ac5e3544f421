-- The items of an output: places, and values of their own.
use Rattle.std.specs.Prelude.{ℕ, ◌+◌, List, [], ◌∷◌, ◌++◌, map}
use Rattle.fj_value.specs.declared.kind.Kind.{Kind}
use Rattle.fj_value.specs.declared.value.Cell.{Cell}
use Rattle.fj_value.specs.declared.value.Value.{Value}
use Rattle.fj_store.specs.declared.piece.Piece.{Piece}
use Rattle.fj_store.specs.declared.piece.Piece.TheVariants.{Places, Own}
use Rattle.fj_store.specs.Places.{places_of}
use Rattle.fj_store.specs.Storage.{Storage, cell_at}

-- the variable of values that have no place
abbrev pub no_variable : ℕ
no_variable = 4294967295

-- the cell of a value of its own, by its number among these
abbrev pub own_cell : ℕ → Kind → Value → Cell
own_cell number kind value = record { place = record { var = no_variable; index = number }; kind = kind; value = value }

-- the cells of items one after another
abbrev pub cells_from : Storage → ℕ → List Piece → List Cell
cells_from s number [] = []
cells_from s number (Places run ∷ pieces) = map (cell_at s) (places_of run) ++ cells_from s number pieces
cells_from s number (Own kind value ∷ pieces) = own_cell number kind value ∷ cells_from s (number + 1) pieces

abbrev pub cells_in : Storage → List Piece → List Cell
cells_in s pieces = cells_from s 1 pieces

-- how many items they are
abbrev pub size_of : Piece → ℕ
size_of (Places run) = run.count
size_of (Own kind value) = 1

abbrev pub sizes : List Piece → ℕ
sizes [] = 0
sizes (piece ∷ pieces) = size_of piece + sizes pieces
