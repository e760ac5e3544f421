-- The items of a transfer as pieces, one for each item, and for each variable of a group.
use Rattle.std.specs.Prelude.{ℕ, ◌≡◌, ◌<◌, ◌^◌, List, [], ◌∷◌, ◌++◌, length, map}
use Rattle.fj_moved.specs.Moved.{AreDistinct, IsOrdered}
use Rattle.fj_moved.specs.declared.moved.Moved.{Moved}
use Rattle.fj_store.specs.declared.piece.Piece.{Piece}
use Rattle.fj_store.specs.declared.piece.Piece.TheVariants.{Places, Own}
use Rattle.fj_store.specs.declared.run.Run.{Run}
use Rattle.fj_store.specs.Pieces.{sizes}
use Rattle.fj_store.specs.Places.{places_of}
use Rattle.fj_statement.specs.declared.deck.Variable.{Variable}
use Rattle.fj_statement.specs.declared.statement.Operand.{Operand}
use Rattle.fj_statement.specs.declared.statement.Operand.TheVariants as operand
use Rattle.fj_statement.specs.declared.statement.Control.{Control}
use Rattle.fj_statement.specs.declared.statement.Control.TheVariants as control
use Rattle.fj_statement.specs.declared.statement.Transfer.{Transfer}
use Rattle.fj_meaning.specs.Items.{operand_places}
use Rattle.fj_run_items.specs.declared.collection.Gathered.{Gathered}

-- a piece of an item: a literal by itself, or its places
abbrev pub IsPiece : List Variable → Operand → Piece → Type 0
IsPiece variables (operand.Literal kind value) piece = piece ≡ Own kind value
IsPiece variables item piece = (run : Run) × (piece ≡ Places run) × (places_of run ≡ operand_places variables item)

abbrev pub ArePieces : List Variable → List Operand → List Piece → Type 0
ArePieces variables [] [] = Unit {0}
ArePieces variables (item ∷ items) (piece ∷ pieces) = IsPiece variables item piece × ArePieces variables items pieces
ArePieces _ _ _ = ⊥

-- the variables of a group, as whole ones
abbrev pub members_in : Control → List Operand
members_in (control.Group name vars) = map operand.Whole vars
members_in _ = []

abbrev pub all_items : Transfer → List Operand
all_items t = t.items ++ members_in t.control

-- pieces of these items, with their size
pub record IsGathered (variables : List Variable) (items : List Operand) (g : Gathered) : Type 0 where
  pub pieces : ArePieces variables items g.pieces.items
  pub size : sizes g.pieces.items ≡ g.size

-- how many items an operand is
abbrev pub count_of : List Variable → Operand → ℕ
count_of variables (operand.Literal kind value) = 1
count_of variables item = length (operand_places variables item)

-- each item has a cell, no two cells have the same place, and items and cells have numbers of 32 bits
pub record IsNumbered (moved : Moved) : Type 0 where
  pub distinct : AreDistinct moved.cells
  pub ordered : IsOrdered moved
  pub few : length moved.order < 2 ^ 32
  pub cells : length moved.cells < 2 ^ 32
