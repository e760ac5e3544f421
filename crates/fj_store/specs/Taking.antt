-- What taking places out, or copying them, one behind the other comes to.
use Rattle.std.specs.Prelude.{◌≡◌, ◌+◌, ◌<◌, ◌≤◌, ℕ, false, List, [], ◌∷◌, length, map, vec_capacity, Option, Some, None, unwrap_or}
use Rattle.std.specs.List.{position_or_len}
use Rattle.std.specs.Option.{option_flatten}
use Rattle.fj_value.specs.declared.kind.Kind.{Kind}
use Rattle.fj_value.specs.declared.place.Place.{Place}
use Rattle.fj_value.specs.declared.value.Cell.{Cell}
use Rattle.fj_value.specs.declared.value.Value.{Value}
use Rattle.fj_value.specs.declared.value.Value.TheVariants.{Undefined}
use Rattle.fj_moved.specs.declared.moved.Moved.{Moved}
use Rattle.fj_store.specs.declared.run.Run.{Run}
use Rattle.fj_store.specs.declared.slot.Slot.{Slot}
use Rattle.fj_store.specs.declared.slot.Slot.TheVariants.{Home, Out}
use Rattle.fj_store.specs.declared.taken.Taken.{Taken}
use Rattle.fj_store.specs.Kinds.{kind_at, of_kind}
use Rattle.fj_store.specs.Pieces.{no_variable}
use Rattle.fj_store.specs.Places.{same_place, places_of}
use Rattle.fj_store.specs.Storage.{value_in}
use Rattle.fj_store.specs.Tables.{element_at, with_element}
use Rattle.fj_store.specs.Variables.{is_at, with_item}

-- ---- the values and the items, as far as they were taken

pub record Taking : Type 0 where
  pub values : List (List (Option Value))
  pub moved : Moved

abbrev pub values_in : List (List Slot) → List (List (Option Value))
values_in slots = map (map value_in) slots

abbrev pub items_in : Taken → Moved
items_in taken = record { cells = taken.cells.items; order = taken.order.items }

abbrev pub taking : List (List Slot) → Taken → Taking
taking slots taken = record { values = values_in slots; moved = items_in taken }

-- the cell of a place, with the value that is read there: none is undefined
abbrev pub cell_read : Kind → List (List (Option Value)) → Place → Cell
cell_read kind values place = record { place = place; kind = kind; value = unwrap_or (option_flatten (element_at values place)) Undefined }

abbrev pub take_one : Kind → Taking → Place → Taking
take_one kind t place = record { values = with_element t.values place None; moved = with_item t.moved (cell_read kind t.values place) }

abbrev pub take_all : Kind → Taking → List Place → Taking
take_all kind t [] = t
take_all kind t (place ∷ places) = take_all kind (take_one kind t place) places

abbrev pub take_runs : List Kind → Taking → List Run → Taking
take_runs kinds t [] = t
take_runs kinds t (run ∷ runs) = take_runs kinds (take_all (kind_at kinds run.var) t (places_of run)) runs

-- so many items more have room, and numbers for their cells
pub record HasRoom (taken : Taken) (more : ℕ) : Type 0 where
  pub cells : length taken.cells.items + more ≤ vec_capacity taken.cells
  pub order : length taken.order.items + more ≤ vec_capacity taken.order
  pub few : length taken.cells.items + more ≤ 4294967295

-- ---- the cells that places have

-- the number of the cell that a place had last
abbrev pub mark_of : Slot → ℕ
mark_of (Home mark v) = mark
mark_of (Out mark) = mark

-- where a place has one of the cells, its mark is the number of that
pub record IsMarked (slots : List (List Slot)) (cells : List Cell) : Type 0 where
  pub marked : (p : Place) (x : Slot) → (p.var ≡ no_variable → ⊥) → element_at slots p ≡ Some x → position_or_len (is_at p) cells < length cells → mark_of x ≡ position_or_len (is_at p) cells

-- the mark of a place is the number of its cell, if it has one
abbrev pub MarkTells : Option ℕ → List Cell → Place → Type 0
MarkTells mark cells p = (m : ℕ) → mark ≡ Some m → (p.var ≡ no_variable → ⊥) → position_or_len (is_at p) cells < length cells → m ≡ position_or_len (is_at p) cells

-- one place is marked, and nothing else has changed but its value
pub record IsMarkedAt (old new : List (List Slot)) (place : Place) (at : ℕ) : Type 0 where
  pub here : (x : Slot) → element_at new place ≡ Some x → mark_of x ≡ at
  pub others : (q : Place) → same_place place q ≡ false → element_at new q ≡ element_at old q

-- numbers of own values from this one on have no cell
abbrev pub AreUnused : ℕ → List Cell → Type 0
AreUnused number cells = (p : Place) → p.var ≡ no_variable → number ≤ p.index → position_or_len (is_at p) cells ≡ length cells

-- ---- what stands at a place

-- the value of a cell, at home again
abbrev pub home : List Kind → Cell → Slot
home kinds cell = Home 0 (of_kind (kind_at kinds cell.place.var) cell.value)

-- what reading a slot gives: a value that is moved out is undefined
abbrev pub value_read : Slot → Value
value_read slot = unwrap_or (value_in slot) Undefined
