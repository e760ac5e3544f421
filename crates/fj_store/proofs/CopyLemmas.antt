-- Copying pieces gives the cells of the items.
use Rattle.std.proofs.Common.{◌≡◌, ◌||◌, ℕ, zero, suc, ◌+◌, ◌-◌, ◌<◌, ◌≤◌, eqb, cond, Bool, true, false, List, [], ◌∷◌, ◌++◌, length, map, drop, get_or, Option, Some, None, refl, sym, ap, subst, ◌∙◌, inl, inr, arith}
use Rattle.std.proofs.lemmas.Bool.{false≢true}
use Rattle.std.specs.List.{range_with_len}
use Rattle.std.specs.Option.{option_map, option_flatten}
use Rattle.std.proofs.lemmas.Bool.Decides.{eqb_tells, nat_tests}
use Rattle.std.proofs.lemmas.List.Folds.{position_or_len_push}
use Rattle.std.proofs.Common.{length-append}
use Rattle.std.proofs.lemmas.List.{append-nil, append_assoc}
use Rattle.std.specs.List.{position_or_len}
use Rattle.fj_value.specs.declared.kind.Kind.{Kind}
use Rattle.fj_value.specs.declared.place.Place.{Place}
use Rattle.fj_value.specs.declared.value.Cell.{Cell}
use Rattle.fj_value.specs.declared.value.Value.{Value}
use Rattle.fj_value.specs.declared.value.Value.TheVariants.{Undefined}
use Rattle.std.specs.Prelude.{unwrap_or}
use Rattle.fj_moved.specs.Load.{row_cells}
use Rattle.fj_moved.specs.declared.moved.Moved.{Moved}
use Rattle.fj_store.specs.declared.piece.Piece.{Piece}
use Rattle.fj_store.specs.declared.piece.Piece.TheVariants.{Places, Own}
use Rattle.fj_store.specs.declared.run.Run.{Run}
use Rattle.fj_store.specs.declared.slot.Slot.{Slot}
use Rattle.fj_store.specs.declared.slot.Slot.TheVariants.{Home, Out}
use Rattle.fj_store.specs.Kinds.{kind_at, of_kind}
use Rattle.fj_store.specs.Pieces.{no_variable, own_cell, cells_from, size_of, sizes}
use Rattle.fj_store.specs.Places.{same_place, counted_from, places_of}
use Rattle.fj_store.specs.Slots.{all_read}
use Rattle.fj_store.specs.Tables.{element_at, with_element, with_cells}
use Rattle.fj_store.specs.Variables.{is_at, with_item, moved_from, moved_of}
use Rattle.fj_store.specs.Storage.{Storage, storage, value_in, value_at, cell_at}
use Rattle.fj_store.specs.Taking.{AreUnused, IsMarkedAt, cell_read, value_read, values_in, home}
use Rattle.fj_moved.proofs.LoadLemmas.{row_more}
use Rattle.fj_store.proofs.TableLemmas.{places_tell, mapped_at, mapped_with, with_itself, with_missing, with_twice, same_fields}
use Rattle.fj_store.proofs.StoreLemmas.{cells_more, stored_read}
use Rattle.fj_store.proofs.RunLemmas.{run_long}
use Rattle.fj_store.proofs.TakingLemmas.{item_other, marked_by}

-- ---- one place

-- a value that is put back under another mark
pub remarked : (slots slots' new : List (List Slot)) (p : Place) (o : Option Slot) (mark at : ℕ) (v : Value) → o ≡ element_at slots p → o ≡ Some (Home mark v) → slots' ≡ with_element slots p (Out at) → new ≡ with_element slots' p (Home at v)
    → (values_in new ≡ values_in slots) × IsMarkedAt slots new p at
remarked slots slots' new p o mark at v there is out put =
    let whole : new ≡ with_element slots p (Home at v) = put ∙ ap (λ rows. with_element rows p (Home at v)) out ∙ with_twice slots p (Out at) (Home at v) in
    let value : element_at (values_in slots) p ≡ Some (Some v) = mapped_at value_in slots p ∙ ap (option_map value_in) (sym there ∙ is) in (
      ap values_in whole ∙ mapped_with value_in slots p (Home at v) ∙ with_itself (values_in slots) p (Some v) value,
      subst (λ rows. IsMarkedAt slots rows p at) (sym whole) (marked_by slots p (Home at v) at refl),
    )

-- a place that is out already, or that there is not
abbrev pub at_home : Option Slot → Bool
at_home None = false
at_home (Some (Home mark v)) = true
at_home (Some (Out mark)) = false

pub out_again : (slots new : List (List Slot)) (p : Place) (o : Option Slot) (at : ℕ) → o ≡ element_at slots p → at_home o ≡ false → new ≡ with_element slots p (Out at)
    → (values_in new ≡ values_in slots) × IsMarkedAt slots new p at × (Undefined ≡ unwrap_or (option_flatten (element_at (values_in slots) p)) Undefined)
out_again slots new p o at there not put =
    let none : Option Value = None in
    let go : (x : Option Slot) → element_at slots p ≡ x → at_home x ≡ false
    → (with_element (values_in slots) p None ≡ values_in slots) × (Undefined ≡ unwrap_or (option_flatten (option_map value_in x)) Undefined) =
    λ x. elim x as (λ z. element_at slots p ≡ z → at_home z ≡ false
    → (with_element (values_in slots) p None ≡ values_in slots) × (Undefined ≡ unwrap_or (option_flatten (option_map value_in z)) Undefined)) [
      | None ↦ λ e h. (with_missing (values_in slots) p none (mapped_at value_in slots p ∙ ap (option_map value_in) e), refl)
      | Some s ↦ elim s as (λ z. element_at slots p ≡ Some z → at_home (Some z) ≡ false
          → (with_element (values_in slots) p None ≡ values_in slots) × (Undefined ≡ unwrap_or (option_flatten (option_map value_in (Some z))) Undefined)) [
            | Home mark v ↦ λ e h. absurd (false≢true (sym h))
            | Out n ↦ λ e h. (with_itself (values_in slots) p none (mapped_at value_in slots p ∙ ap (option_map value_in) e), refl)
          ]
    ] in
    let found = go (element_at slots p) refl (ap at_home (sym there) ∙ not) in (
      ap values_in put ∙ mapped_with value_in slots p (Out at) ∙ found.0,
      subst (λ rows. IsMarkedAt slots rows p at) (sym put) (marked_by slots p (Out at) at refl),
      found.1 ∙ ap (λ x. unwrap_or (option_flatten x) Undefined) (sym (mapped_at value_in slots p)),
    )

-- ---- places one behind the other

pub copy_step : (kind : Kind) (values values' : List (List (Option Value))) (moved moved' want : Moved) (var first count at : ℕ) (p : Place) → at < count → p.var ≡ var → p.index ≡ first + at → values' ≡ values
    → moved' ≡ with_item moved (cell_read kind values' p)
    → moved_from moved (map (cell_read kind values) (counted_from var (first + at) (count - at))) ≡ want
    → moved_from moved' (map (cell_read kind values) (counted_from var (first + (at + 1)) (count - (at + 1)))) ≡ want
copy_step kind values values' moved moved' want var first count at p low var_is index_is same step so_far =
    let here : Place = record { var = var; index = first + at } in
    let left : count - at ≡ suc (count - (at + 1)) = omega arith in
    let next : first + (at + 1) ≡ (first + at) + 1 = omega arith in
    ap (λ n. moved_from moved' (map (cell_read kind values) (counted_from var n (count - (at + 1))))) next
    ∙ ap (λ m. moved_from m (map (cell_read kind values) (counted_from var ((first + at) + 1) (count - (at + 1)))))
    (step ∙ ap (λ v. with_item moved (cell_read kind v p)) same ∙ ap (λ q. with_item moved (cell_read kind values q)) (same_fields p here var_is index_is))
    ∙ sym (ap (λ n. moved_from moved (map (cell_read kind values) (counted_from var (first + at) n))) left)
    ∙ so_far

-- the cells of a run's places, by the kind of its variable
run_cells : (kinds : List Kind) (values : List (List (Option Value))) (var first n : ℕ) → map (cell_read (kind_at kinds var) values) (counted_from var first n) ≡ map (cell_at (record { kinds = kinds; values = values })) (counted_from var first n)
run_cells kinds values var first zero = refl
run_cells kinds values var first (suc n) =
    let p : Place = record { var = var; index = first } in
    ap (λ cells. cell_read (kind_at kinds var) values p ∷ cells) (run_cells kinds values var (first + 1) n)

-- ---- a cell more

at_end : (at n : ℕ) → at ≡ n → cond (eqb at n) (n + 1) at ≡ n + 1
at_end at n e = rw e (grind (arith, nat_tests))

-- a place that no cell has is not that of the next one
not_found : (cells : List Cell) (cell : Cell) (p : Place) → position_or_len (is_at p) cells ≡ length cells → same_place p cell.place ≡ false
    → position_or_len (is_at p) (cells ++ cell ∷ []) ≡ length (cells ++ cell ∷ [])
not_found cells cell p e differ =
    position_or_len_push (is_at p) cells cell
    ∙ ap (λ b. cond (eqb (position_or_len (is_at p) cells) (length cells)) (length cells + cond b 0 1) (position_or_len (is_at p) cells)) differ
    ∙ at_end (position_or_len (is_at p) cells) (length cells) e
    ∙ sym (length-append cells (cell ∷ []))

-- ---- numbers of own values that have no cell

other_var : (p q : Place) → p.var ≡ no_variable → (q.var ≡ no_variable → ⊥) → same_place p q ≡ false
other_var p q none some = elim (places_tell p q) [
  | inl same ↦ absurd (some (ap (λ (z : Place). z.var) (sym same.1) ∙ none))
  | inr other ↦ other.0
]

unused_beside : (moved : Moved) (cell : Cell) (p : Place) → position_or_len (is_at p) moved.cells ≡ length moved.cells → same_place p cell.place ≡ false
    → position_or_len (is_at p) (with_item moved cell).cells ≡ length (with_item moved cell).cells
unused_beside moved cell p free differ = elim (item_other moved cell p differ) [
  | inl found ↦ absurd (let low : position_or_len (is_at p) moved.cells < length moved.cells = found.0 in omega (arith, low, free))
  | inr lost ↦ lost.1
]

unused_item : (number : ℕ) (moved : Moved) (cell : Cell) → (cell.place.var ≡ no_variable → ⊥) → AreUnused number moved.cells → AreUnused number (with_item moved cell).cells
unused_item number moved cell some free p none high = unused_beside moved cell p (free p none high) (other_var p cell.place none some)

unused_places : (number : ℕ) (kind : Kind) (values : List (List (Option Value))) (var first n : ℕ) (moved : Moved) → (var ≡ no_variable → ⊥) → AreUnused number moved.cells
    → AreUnused number (moved_from moved (map (cell_read kind values) (counted_from var first n))).cells
unused_places number kind values var first zero moved some free = free
unused_places number kind values var first (suc n) moved some free =
    let cell : Cell = cell_read kind values (record { var = var; index = first }) in
    unused_places number kind values var (first + 1) n (with_item moved cell) some (unused_item number moved cell some free)

pub unused_own : (number : ℕ) (moved moved' : Moved) (kind : Kind) (v : Value) → moved' ≡ with_item moved (own_cell number kind v) → AreUnused number moved.cells → AreUnused (number + 1) moved'.cells
unused_own number moved moved' kind v step free =
    let cell : Cell = own_cell number kind v in
    let go : AreUnused (number + 1) (with_item moved cell).cells =
    λ p none high. let apart : same_place p cell.place ≡ false = grind (arith, nat_tests) in unused_beside moved cell p (free p none (omega arith)) apart in
    subst (λ (m : Moved). AreUnused (number + 1) m.cells) (sym step) go

pub unused_run : (number : ℕ) (kind : Kind) (values : List (List (Option Value))) (moved moved' : Moved) (run : Run) (mixed mixed' : Bool) → mixed' ≡ (mixed || eqb run.var no_variable)
    → moved' ≡ moved_from moved (map (cell_read kind values) (places_of run)) → (mixed ≡ false → AreUnused number moved.cells) → mixed' ≡ false → AreUnused number moved'.cells
unused_run number kind values moved moved' run mixed mixed' is step free unmixed =
    let go : (b c : Bool) → (b || c) ≡ false → (b ≡ false) × (c ≡ false) =
    λ b c. elim b as (λ z. (z || c) ≡ false → (z ≡ false) × (c ≡ false)) [ true ↦ λ e. absurd (false≢true (sym e)) | false ↦ λ e. (refl, e) ] in
    let parts = go mixed (eqb run.var no_variable) (sym is ∙ unmixed) in
    let some : run.var ≡ no_variable → ⊥ = λ e. elim (eqb_tells run.var no_variable) [ inl same ↦ false≢true (sym parts.1 ∙ same.0) | inr differ ↦ differ.1 e ] in
    subst (λ (m : Moved). AreUnused number m.cells) (sym step) (unused_places number kind values run.var run.first run.count moved some (free parts.0))

pub none_used : (cells : List Cell) → cells ≡ [] → AreUnused 1 cells
none_used cells none p var high = ap (position_or_len (is_at p)) none ∙ sym (ap length none)

-- ---- the steps of the loop over pieces

from_append : (moved : Moved) (xs ys : List Cell) → moved_from moved (xs ++ ys) ≡ moved_from (moved_from moved xs) ys
from_append moved [] ys = refl
from_append moved (x ∷ xs) ys = from_append (with_item moved x) xs ys

pub places_step : (kinds : List Kind) (start : List (List Slot)) (values : List (List (Option Value))) (number : ℕ) (moved moved' want : Moved) (items rest : List Piece) (run : Run) (kind : Kind) → items ≡ Places run ∷ rest → kind ≡ kind_at kinds run.var
    → values ≡ values_in start → moved' ≡ moved_from moved (map (cell_read kind values) (places_of run))
    → moved_from moved (cells_from (storage kinds start) number items) ≡ want → moved_from moved' (cells_from (storage kinds start) number rest) ≡ want
places_step kinds start values number moved moved' want items rest run kind e kind_is same step so_far =
    let s : Storage = storage kinds start in
    ap (λ m. moved_from m (cells_from s number rest))
    (step ∙ ap (λ k. moved_from moved (map (cell_read k values) (places_of run))) kind_is ∙ ap (λ v. moved_from moved (map (cell_read (kind_at kinds run.var) v) (places_of run))) same
    ∙ ap (moved_from moved) (run_cells kinds (values_in start) run.var run.first run.count))
    ∙ sym (from_append moved (map (cell_at s) (places_of run)) (cells_from s number rest))
    ∙ sym (ap (λ ps. moved_from moved (cells_from s number ps)) e)
    ∙ so_far

pub own_step : (s : Storage) (number : ℕ) (moved moved' want : Moved) (items rest : List Piece) (kind : Kind) (v : Value) → items ≡ Own kind v ∷ rest → moved' ≡ with_item moved (own_cell number kind v)
    → moved_from moved (cells_from s number items) ≡ want → moved_from moved' (cells_from s (number + 1) rest) ≡ want
own_step s number moved moved' want items rest kind v e step so_far =
    ap (λ m. moved_from m (cells_from s (number + 1) rest)) step ∙ sym (ap (λ ps. moved_from moved (cells_from s number ps)) e) ∙ so_far

pub size_step : (items rest : List Piece) (piece : Piece) → items ≡ piece ∷ rest → sizes items ≡ size_of piece + sizes rest
size_step items rest piece e = ap sizes e

-- the same, of a store
pub copy_is : (kinds ks : List Kind) (start : List (List Slot)) (pieces : List Piece) (s : Storage) (cells : List Cell) (order : List ℕ) (moved : Moved) → storage kinds start ≡ s → ks ≡ kinds → cells ≡ [] → order ≡ []
    → moved ≡ moved_from (record { cells = cells; order = order }) (cells_from (storage ks start) 1 pieces) → moved ≡ moved_of (cells_from s 1 pieces)
copy_is kinds ks start pieces s cells order moved view same none empty is =
    let at : List Cell → List ℕ → Moved = λ c o. record { cells = c; order = o } in
    is ∙ ap (λ k. moved_from (at cells order) (cells_from (storage k start) 1 pieces)) same
    ∙ ap (λ z. moved_from (at cells order) (cells_from z 1 pieces)) view
    ∙ ap (λ c. moved_from (at c order) (cells_from s 1 pieces)) none
    ∙ ap (λ o. moved_from (at [] o) (cells_from s 1 pieces)) empty

-- ---- a run alone

-- no cell has one of these places of a variable, from an index on
abbrev pub AreFree : ℕ → ℕ → List Cell → Type 0
AreFree var from cells = (k : ℕ) → from ≤ k → let p : Place = record { var = var; index = k } in position_or_len (is_at p) cells ≡ length cells

pub none_is_taken : (var from : ℕ) → AreFree var from []
none_is_taken var from k high = refl

still_free : (var at : ℕ) (cells : List Cell) (cell : Cell) → cell.place ≡ record { var = var; index = at } → AreFree var at cells → AreFree var (at + 1) (cells ++ cell ∷ [])
still_free var at cells cell there free k high =
    let p : Place = record { var = var; index = k } in
    let later : eqb k at ≡ false = grind (arith, nat_tests) in
    let apart : same_place p cell.place ≡ false = ap (same_place p) there ∙ grind (arith, nat_tests) in
    not_found cells cell p (free k (omega arith)) apart

-- a cell whose place is free comes behind the others
free_item : (moved : Moved) (cell : Cell) → position_or_len (is_at cell.place) moved.cells ≡ length moved.cells
    → with_item moved cell ≡ record { cells = moved.cells ++ cell ∷ []; order = moved.order ++ length moved.cells ∷ [] }
free_item moved cell new =
    let test : eqb (position_or_len (is_at cell.place) moved.cells) (length moved.cells) ≡ true = rw new (grind (arith, nat_tests)) in
    ap (λ b. let it : Moved = record { cells = cond b (moved.cells ++ cell ∷ []) moved.cells; order = moved.order ++ position_or_len (is_at cell.place) moved.cells ∷ [] } in it) test
    ∙ ap (λ n. let it : Moved = record { cells = moved.cells ++ cell ∷ []; order = moved.order ++ n ∷ [] } in it) new

-- the places of a run are as many cells, each with one item
pub run_alone : (s : Storage) (var first n : ℕ) (moved : Moved) → AreFree var first moved.cells
    → moved_from moved (map (cell_at s) (counted_from var first n)) ≡ record { cells = moved.cells ++ map (cell_at s) (counted_from var first n); order = moved.order ++ range_with_len (length moved.cells) n }
run_alone s var first zero moved free =
    ap (λ cs. let it : Moved = record { cells = cs; order = moved.order } in it) (sym (append-nil moved.cells))
    ∙ ap (λ o. let it : Moved = record { cells = moved.cells ++ []; order = o } in it) (sym (append-nil moved.order))
run_alone s var first (suc n) moved free =
    let p : Place = record { var = var; index = first } in
    let cell = cell_at s p in
    let more : List Cell = map (cell_at s) (counted_from var (first + 1) n) in
    let next : Moved = record { cells = moved.cells ++ cell ∷ []; order = moved.order ++ length moved.cells ∷ [] } in
    let both : List Cell → List ℕ → Moved = λ cells order. record { cells = cells; order = order } in
    let long : length (moved.cells ++ cell ∷ []) ≡ length moved.cells + 1 = omega (arith, length-append moved.cells (cell ∷ [])) in
    ap (λ m. moved_from m more) (free_item moved cell (free first (omega arith)))
    ∙ run_alone s var (first + 1) n next (still_free var first moved.cells cell refl free)
    ∙ ap (λ cs. both cs (next.order ++ range_with_len (length next.cells) n)) (append_assoc moved.cells (cell ∷ []) more)
    ∙ ap (λ k. both (moved.cells ++ cell ∷ more) (next.order ++ range_with_len k n)) long
    ∙ ap (both (moved.cells ++ cell ∷ more)) (append_assoc moved.order (length moved.cells ∷ []) (range_with_len (length moved.cells + 1) n))

-- what is read at the places of a run, as the cells of a row
row_read : (kinds : List Kind) (slots : List (List Slot)) (s : Storage) (kind : Kind) (var first n : ℕ) (row : List Value) → storage kinds slots ≡ s → kind ≡ kind_at s.kinds var
    → map Some row ≡ map (element_at (all_read slots)) (counted_from var first n)
    → row_cells (record { var = var; index = first }) kind row ≡ map (cell_at s) (counted_from var first n)
row_read kinds slots s kind var first zero [] view same read = refl
row_read kinds slots s kind var first (suc n) [] view same read = absurd (let never : 0 ≡ suc (length (map (element_at (all_read slots)) (counted_from var (first + 1) n))) = ap length read in omega (arith, never))
row_read kinds slots s kind var first zero (v ∷ row) view same read = absurd (let never : suc (length (map (λ (y : Value). Some y) row)) ≡ 0 = ap length read in omega (arith, never))
row_read kinds slots s kind var first (suc n) (v ∷ row) view same read =
    let p : Place = record { var = var; index = first } in
    let none : Option Value = None in
    let here : Some v ≡ element_at (all_read slots) p = ap (λ l. get_or l 0 none) read in
    let go : (o : Option Slot) → Some v ≡ option_map value_read o → v ≡ unwrap_or (option_flatten (option_map value_in o)) Undefined =
    λ o. elim o as (λ z. Some v ≡ option_map value_read z → v ≡ unwrap_or (option_flatten (option_map value_in z)) Undefined) [ None ↦ λ e. cc | Some x ↦ λ e. cc ] in
    let value : v ≡ unwrap_or (value_at s p) Undefined = go (element_at slots p) (here ∙ mapped_at value_read slots p) ∙ ap (λ (o : Option Value). unwrap_or o Undefined) (sym (stored_read kinds slots s p view)) in
    let cell : cell_of p kind v ≡ cell_at s p = ap (λ k. cell_of p k v) same ∙ ap (cell_of p (kind_at s.kinds var)) value in
    ap (λ c. c ∷ row_cells (record { var = var; index = first + 1 }) kind row) cell
    ∙ ap (λ l. cell_at s p ∷ l) (row_read kinds slots s kind var (first + 1) n row view same (ap (drop 1) read))
  where
    cell_of : Place → Kind → Value → Cell
    cell_of p kind v = record { place = p; kind = kind; value = v }

-- these are the items that are copied
pub row_moved : (kinds : List Kind) (slots : List (List Slot)) (s : Storage) (row : List Value) (kind : Kind) (var first n : ℕ) → storage kinds slots ≡ s → kind ≡ kind_at s.kinds var
    → map Some row ≡ map (element_at (all_read slots)) (counted_from var first n)
    → record { cells = row_cells (record { var = var; index = first }) kind row; order = range_with_len 0 (length row) } ≡ moved_of (map (cell_at s) (counted_from var first n))
row_moved kinds slots s row kind var first n view same read =
    let both : List Cell → List ℕ → Moved = λ cells order. record { cells = cells; order = order } in
    ap (λ cs. both cs (range_with_len 0 (length row))) (row_read kinds slots s kind var first n row view same read)
    ∙ ap (λ k. both (map (cell_at s) (counted_from var first n)) (range_with_len 0 k)) (run_long (all_read slots) row var first n read)
    ∙ sym (run_alone s var first n (both [] []) (none_is_taken var first))

-- ---- a row that comes back

pub row_put : (kinds : List Kind) (start slots new : List (List Slot)) (first place : Place) (kind : Kind) (values : List Value) (v v' : Value) (k : Kind)
    → slots ≡ with_cells (home kinds) (row_cells first kind values) start → place.var ≡ first.var → place.index ≡ first.index + length values → k ≡ kind_at kinds first.var → v' ≡ of_kind k v
    → new ≡ with_element slots place (Home 0 v') → new ≡ with_cells (home kinds) (row_cells first kind (values ++ v ∷ [])) start
row_put kinds start slots new first place kind values v v' k so_far var index kind_is made put =
    let there : Place = record { var = first.var; index = place.index } in
    let cell : Cell = record { place = there; kind = kind; value = v } in
    let same : place ≡ there = same_fields place there var refl in
    put ∙ ap (λ p. with_element slots p (Home 0 v')) same
    ∙ ap (λ x. with_element slots there (Home 0 x)) (made ∙ ap (λ x. of_kind x v) kind_is)
    ∙ ap (λ rows. with_element rows there (home kinds cell)) so_far
    ∙ sym (cells_more (home kinds) (row_cells first kind values) cell start)
    ∙ ap (λ cs. with_cells (home kinds) cs start) (sym (row_more first kind values v place.index index))
