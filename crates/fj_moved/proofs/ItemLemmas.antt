-- The items that are left, one by one.
use Rattle.std.proofs.Common.{◌≡◌, ℕ, zero, suc, ◌+◌, ◌-◌, ◌≤◌, ◌<◌, List, [], ◌∷◌, ◌++◌, length, take, drop, get_or, slice_get, Option, Some, None, refl, sym, ap, ◌∙◌, arith}
use Rattle.std.specs.List.{flat_map, range_with_len}
use Rattle.std.proofs.lemmas.List.{at_drop_more, at_drop_all, take_rest, take-append-drop, map-append}
use Rattle.fj_value.specs.declared.kind.Kind.{Kind}
use Rattle.fj_value.specs.declared.place.Place.{Place}
use Rattle.fj_value.specs.declared.value.Value.{Value}
use Rattle.fj_value.specs.declared.value.Cell.{Cell}
use Rattle.fj_moved.specs.declared.items.Run.{Run}
use Rattle.fj_moved.specs.Items.{in_cell, in_cells, values_of, of_kind, in_runs, in_runs_from}
use Rattle.fj_moved.specs.Load.{row_cells}
use Rattle.fj_moved.proofs.LoadLemmas.{by_number}

pub some_there : (xs : List Cell) (i : ℕ) (d : Cell) → i < length xs → slice_get xs i ≡ Some (get_or xs i d)
some_there [] i d h = absurd (omega arith)
some_there (x ∷ xs) zero d h = refl
some_there (x ∷ xs) (suc i) d h = some_there xs i d (omega arith)

pub none_there : (xs : List Cell) (i : ℕ) → length xs ≤ i → slice_get xs i ≡ None
none_there [] i h = refl
none_there (x ∷ xs) zero h = absurd (omega arith)
none_there (x ∷ xs) (suc i) h = none_there xs i (omega arith)

-- the first item of the cells that are left
pub cells_more : (cells : List Cell) (order : List ℕ) (at : ℕ) (o : Option Cell) → at < length order → slice_get cells (get_or order at 0) ≡ o
    → in_cells cells (drop at order) ≡ in_cell o ++ in_cells cells (drop (at + 1) order)
cells_more cells order at o h e = at_drop_more (in_cells cells) order at 0 h ∙ ap (λ c. in_cell c ++ in_cells cells (drop (at + 1) order)) e

pub cells_all : (cells : List Cell) (order : List ℕ) (at : ℕ) → length order ≤ at → in_cells cells (drop at order) ≡ []
cells_all cells order at h = at_drop_all (in_cells cells) order at h

-- ---- a row

-- so many of its items, and the others
pub row_cut : (kind first : Kind) (values all : List Value) (count : ℕ) → first ≡ kind → all ≡ values
    → of_kind kind values ≡ of_kind first (take count all) ++ of_kind kind (take (length values - count) (drop count values))
row_cut kind first values all count same is =
    ap (of_kind kind) (sym (take-append-drop count values))
    ∙ map-append (λ v. (kind, v)) (take count values) (drop count values)
    ∙ ap (λ l. of_kind kind (take count values) ++ of_kind kind l) (sym (take_rest values count))
    ∙ ap (λ l. of_kind kind (take count l) ++ of_kind kind (take (length values - count) (drop count values))) (sym is)
    ∙ ap (λ k. of_kind k (take count all) ++ of_kind kind (take (length values - count) (drop count values))) (sym same)

in_row : (place : Place) (kind : Kind) (values : List Value) → flat_map (λ cell. in_cell (Some cell)) (row_cells place kind values) ≡ of_kind kind values
in_row place kind [] = refl
in_row place kind (v ∷ vs) = ap (λ l. (kind, v) ∷ l) (in_row (record place { index = place.index + 1 }) kind vs)

-- the cells of a row have its items
pub row_is : (place : Place) (kind : Kind) (values : List Value) → in_cells (row_cells place kind values) (range_with_len 0 (length values)) ≡ of_kind kind values
row_is place kind values = by_number in_cell [] place kind values ∙ in_row place kind values

-- ---- runs

-- a run of the runs that are left
runs_here : (runs : List Run) (run at : ℕ) (r : Run) → run < length runs → get_or runs run r ≡ r → in_runs_from at (drop run runs) ≡ of_kind r.kind (drop at (values_of r.values)) ++ in_runs (drop (run + 1) runs)
runs_here runs run at r h is = at_drop_more (in_runs_from at) runs run r h ∙ ap (λ (x : Run). of_kind x.kind (drop at (values_of x.values)) ++ in_runs (drop (run + 1) runs)) is

-- the first value of the runs that are left
pub runs_more : (runs : List Run) (run at next : ℕ) (r : Run) (v : Value) → run < length runs → get_or runs run r ≡ r → drop at (values_of r.values) ≡ v ∷ drop next (values_of r.values)
    → in_runs_from at (drop run runs) ≡ (r.kind, v) ∷ in_runs_from next (drop run runs)
runs_more runs run at next r v h is e =
    runs_here runs run at r h is ∙ ap (λ vs. of_kind r.kind vs ++ in_runs (drop (run + 1) runs)) e ∙ ap (λ l. (r.kind, v) ∷ l) (sym (runs_here runs run next r h is))

from_start : (rs : List Run) → in_runs_from 0 rs ≡ in_runs rs
from_start [] = refl
from_start (x ∷ rs) = refl

-- a run has no value left
pub runs_next : (runs : List Run) (run at : ℕ) (r : Run) → run < length runs → get_or runs run r ≡ r → drop at (values_of r.values) ≡ [] → in_runs_from at (drop run runs) ≡ in_runs_from 0 (drop (run + 1) runs)
runs_next runs run at r h is e =
    runs_here runs run at r h is ∙ ap (λ vs. of_kind r.kind vs ++ in_runs (drop (run + 1) runs)) e ∙ sym (from_start (drop (run + 1) runs))

pub runs_all : (runs : List Run) (run at : ℕ) → length runs ≤ run → in_runs_from at (drop run runs) ≡ []
runs_all runs run at h = at_drop_all (in_runs_from at) runs run h
