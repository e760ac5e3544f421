-- Worked cases of variables that are read, moved out and given back.
use Rattle.std.specs.Prelude.{◌≡◌, ℕ, pos, negsuc, true, List, [], ◌∷◌, ◌++◌, map, Some, None}
use Rattle.fj_value.specs.declared.kind.Kind.{Kind}
use Rattle.fj_value.specs.declared.kind.Kind.TheVariants.{Int4, Logical, Chars}
use Rattle.fj_value.specs.declared.place.Place.{Place}
use Rattle.fj_value.specs.declared.value.Cell.{Cell}
use Rattle.fj_value.specs.declared.value.Value.{Value}
use Rattle.fj_value.specs.declared.value.Value.TheVariants.{Undefined, Int, Log, Chars as Text}
use Rattle.fj_store.specs.declared.piece.Piece.TheVariants.{Places, Own}
use Rattle.fj_store.specs.declared.run.Run.{Run}
use Rattle.fj_store.specs.Pieces.{cells_in}
use Rattle.fj_store.specs.Places.{counted_from, places_of}
use Rattle.fj_store.specs.Variables.{moved_of}
use Rattle.fj_store.specs.Storage.{Storage, all_undefined, value_at, cell_at, with_value, without, given_back}

abbrev pub place : ℕ → ℕ → Place
place var index = record { var = var; index = index }

-- the integers A = 7 and B, an array C of three integers of which the second is 5, a truth value and three characters
abbrev pub variables : Storage
variables = record {
  kinds = Int4 ∷ Int4 ∷ Int4 ∷ Logical ∷ Chars 3 ∷ [];
  values = (Some (Int (pos 7)) ∷ []) ∷ (Some Undefined ∷ []) ∷ (Some Undefined ∷ Some (Int (pos 5)) ∷ Some Undefined ∷ []) ∷ (Some Undefined ∷ []) ∷ (Some Undefined ∷ []) ∷ [];
}

abbrev pub cells : List Place → List Cell
cells places = map (cell_at variables) places

abbrev pub cell : ℕ → ℕ → Kind → Value → Cell
cell var index kind value = record { place = place var index; kind = kind; value = value }

abbrev pub a : Cell
a = cell 0 1 Int4 (Int (pos 7))

abbrev pub c : ℕ → Value → Cell
c index value = cell 2 index Int4 value

-- what the cells of items are, and which cell each item has
pub record ItemsHaveCells : Type 0 where
  pub in_order : moved_of (cells (place 1 1 ∷ place 0 1 ∷ [])) ≡ record { cells = cell 1 1 Int4 Undefined ∷ a ∷ []; order = 0 ∷ 1 ∷ [] }
  pub item_twice : moved_of (cells (place 0 1 ∷ place 1 1 ∷ place 0 1 ∷ [])) ≡ record { cells = a ∷ cell 1 1 Int4 Undefined ∷ []; order = 0 ∷ 1 ∷ 0 ∷ [] }
  pub element_before_its_array : moved_of (cells (place 2 2 ∷ counted_from 2 1 3)) ≡ record { cells = c 2 (Int (pos 5)) ∷ c 1 Undefined ∷ c 3 Undefined ∷ []; order = 0 ∷ 1 ∷ 0 ∷ 2 ∷ [] }
  pub element_behind_its_array : moved_of (cells (counted_from 2 1 3 ++ place 2 2 ∷ [])) ≡ record { cells = c 1 Undefined ∷ c 2 (Int (pos 5)) ∷ c 3 Undefined ∷ []; order = 0 ∷ 1 ∷ 2 ∷ 1 ∷ [] }
  pub no_item : moved_of [] ≡ record { cells = []; order = [] }

-- what is read, before, while and after places are out
pub record PlacesComeBack : Type 0 where
  pub begins_undefined : value_at (all_undefined ((Int4, 2) ∷ [])) (place 0 2) ≡ Some Undefined
  pub home : value_at variables (place 0 1) ≡ Some (Int (pos 7))
  pub out : value_at (without (place 0 1 ∷ []) variables) (place 0 1) ≡ None
  pub neighbour : value_at (without (place 2 1 ∷ place 2 3 ∷ []) variables) (place 2 2) ≡ Some (Int (pos 5))
  pub undefined_is_not_out : value_at variables (place 1 1) ≡ Some Undefined
  pub comes_back_changed : value_at (given_back (cell 0 1 Int4 (Int (pos 8)) ∷ []) (without (place 0 1 ∷ []) variables)) (place 0 1) ≡ Some (Int (pos 8))
  pub comes_back_undefined : value_at (given_back (cell 0 1 Int4 Undefined ∷ []) (without (place 0 1 ∷ []) variables)) (place 0 1) ≡ Some Undefined
  pub another_kind : value_at (given_back (cell 0 1 Int4 (Log true) ∷ []) (without (place 0 1 ∷ []) variables)) (place 0 1) ≡ Some Undefined
  pub too_large : value_at (with_value variables (place 1 1) (Int (pos 2147483648))) (place 1 1) ≡ Some Undefined
  pub lowest : value_at (with_value variables (place 1 1) (Int (negsuc 2147483647))) (place 1 1) ≡ Some (Int (negsuc 2147483647))
  pub too_low : value_at (with_value variables (place 1 1) (Int (negsuc 2147483648))) (place 1 1) ≡ Some Undefined
  pub largest : value_at (with_value variables (place 1 1) (Int (pos 2147483647))) (place 1 1) ≡ Some (Int (pos 2147483647))
  pub characters : value_at (with_value variables (place 4 1) (Text (65 ∷ 66 ∷ 67 ∷ []))) (place 4 1) ≡ Some (Text (65 ∷ 66 ∷ 67 ∷ []))
  pub characters_of_another_length : value_at (with_value variables (place 4 1) (Text (65 ∷ []))) (place 4 1) ≡ Some Undefined

-- A is out
abbrev pub out : Storage
out = without (place 0 1 ∷ []) variables

-- what the cells of an output's items are: each value of its own has a cell by itself, and these are counted from 1
pub record OutputsHaveCells : Type 0 where
  pub own_values : cells_in variables (Own Int4 (Int (pos 5)) ∷ Own (Chars 1) (Text (65 ∷ [])) ∷ []) ≡ cell 4294967295 1 Int4 (Int (pos 5)) ∷ cell 4294967295 2 (Chars 1) (Text (65 ∷ [])) ∷ []
  pub same_value_twice : moved_of (cells_in variables (Own Int4 (Int (pos 5)) ∷ Own Int4 (Int (pos 5)) ∷ [])) ≡ record { cells = cell 4294967295 1 Int4 (Int (pos 5)) ∷ cell 4294967295 2 Int4 (Int (pos 5)) ∷ []; order = 0 ∷ 1 ∷ [] }
  pub place_that_is_out : (run : Run) → places_of run ≡ place 0 1 ∷ [] → cells_in out (Places run ∷ []) ≡ cell 0 1 Int4 Undefined ∷ []
  pub between_places : (run : Run) → cells_in variables (Own Logical (Log true) ∷ Places run ∷ Own Int4 (Int (pos 5)) ∷ []) ≡ cell 4294967295 1 Logical (Log true) ∷ (cells (places_of run) ++ cell 4294967295 2 Int4 (Int (pos 5)) ∷ [])

-- READs of which the items are out: one of A, one of B, and then of B alone
abbrev pub both_out : Storage
both_out = without (place 1 1 ∷ []) out

abbrev pub b : ℕ → Cell
b n = cell 1 1 Int4 (Int (pos n))

-- A is 7 and B undefined before these READs; the second one is told first
pub record ReadsComeBack : Type 0 where
  pub first_is_out : value_at both_out (place 0 1) ≡ None
  pub second_is_out : value_at both_out (place 1 1) ≡ None
  pub second_comes : value_at (given_back (b 2 ∷ []) both_out) (place 1 1) ≡ Some (Int (pos 2))
  pub first_stays_out : value_at (given_back (b 2 ∷ []) both_out) (place 0 1) ≡ None
  -- a READ of A while it is out takes it undefined, and it stays out
  pub taken_again : moved_of (map (cell_at out) (place 0 1 ∷ [])) ≡ record { cells = cell 0 1 Int4 Undefined ∷ []; order = 0 ∷ [] }
  pub stays_out : without (place 0 1 ∷ []) out ≡ out
  pub order_of_coming : given_back (b 2 ∷ []) (given_back (a ∷ []) both_out) ≡ given_back (a ∷ []) (given_back (b 2 ∷ []) both_out)
  -- one READ of both, of which the record has no value for A
  pub null_value : given_back (a ∷ b 5 ∷ []) (without (place 0 1 ∷ place 1 1 ∷ []) variables) ≡ with_value variables (place 1 1) (Int (pos 5))
  -- one READ that has A twice gives it back once, and one of C with its second element too gives that back once
  pub item_twice : given_back (cell 0 1 Int4 (Int (pos 9)) ∷ b 1 ∷ []) (without (place 0 1 ∷ place 1 1 ∷ place 0 1 ∷ []) variables) ≡ with_value (with_value variables (place 0 1) (Int (pos 9))) (place 1 1) (Int (pos 1))
  pub array_with_element : given_back (c 2 (Int (pos 4)) ∷ c 1 (Int (pos 1)) ∷ c 3 Undefined ∷ []) (without (place 2 2 ∷ counted_from 2 1 3) variables) ≡ with_value (with_value variables (place 2 1) (Int (pos 1))) (place 2 2) (Int (pos 4))
