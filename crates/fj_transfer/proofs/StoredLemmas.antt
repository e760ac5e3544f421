-- The values of items and their bytes, one by one.
use Rattle.std.proofs.Common.{◌≡◌, ℕ, zero, suc, ◌+◌, ◌-◌, ◌<◌, ◌≤◌, List, [], ◌∷◌, ◌++◌, length, take, drop, get_or, Some, refl, sym, ap, ◌∙◌, arith, append_assoc, length-drop, add-one}
use Rattle.std.specs.Prelude.{slice_get}
use Rattle.std.specs.List.{flat_map, range_with_len}
use Rattle.std.specs.Option.{option_map_or}
use Rattle.std.proofs.Math.Seq.{drop-cons}
use Rattle.std.proofs.lemmas.List.{drop_all, take_all, drop-drop}
use Rattle.std.proofs.lemmas.List.Sums.{sum_by-cons}
use Rattle.fj_value.specs.declared.kind.Kind.{Kind}
use Rattle.fj_value.specs.declared.kind.Kind.TheVariants.{Logical}
use Rattle.fj_value.specs.declared.place.Place.{Place}
use Rattle.fj_value.specs.declared.value.Cell.{Cell}
use Rattle.fj_value.specs.declared.value.Value.{Value}
use Rattle.fj_value.specs.declared.value.Value.TheVariants.{Undefined}
use Rattle.fj_unfrec.specs.Stored.{stored, stored_width, value_of}
use Rattle.fj_moved.specs.Cells.{kind_at, with_value}
use Rattle.fj_moved.specs.Moved.{value_at}
use Rattle.fj_moved.specs.Load.{row_cells}
use Rattle.fj_moved.proofs.LoadLemmas.{by_number}
use Rattle.fj_transfer.specs.Transfer.{widths, bytes_of, values_from}

-- ---- cells

pub kind_there : (cells : List Cell) (at : ℕ) (cell : Cell) → slice_get cells at ≡ Some cell → cell.kind ≡ kind_at cells at
kind_there cells at cell e = rw e refl

pub value_there : (cells : List Cell) (at : ℕ) (cell : Cell) → slice_get cells at ≡ Some cell → cell.value ≡ value_at cells at
value_there cells at cell e = rw e refl

pub kind_kept : (cells : List Cell) (at k : ℕ) (w : Value) → kind_at (with_value cells at w) k ≡ kind_at cells k
kind_kept [] at k w = refl
kind_kept (c ∷ cells) zero zero w = refl
kind_kept (c ∷ cells) zero (suc k) w = refl
kind_kept (c ∷ cells) (suc at) zero w = refl
kind_kept (c ∷ cells) (suc at) (suc k) w = kind_kept cells at k w

pub widths_of_cons : (cells : List Cell) (k : ℕ) (order : List ℕ) → widths cells (k ∷ order) ≡ stored_width (kind_at cells k) + widths cells order
widths_of_cons cells k order = sum_by-cons (λ n. stored_width (kind_at cells n)) k order

pub widths_kept : (cells : List Cell) (at : ℕ) (w : Value) (order : List ℕ) → widths (with_value cells at w) order ≡ widths cells order
widths_kept cells at w [] = refl
widths_kept cells at w (k ∷ order) =
    sum_by-cons (λ n. stored_width (kind_at (with_value cells at w) n)) k order
    ∙ ap (λ (kind : Kind). stored_width kind + widths (with_value cells at w) order) (kind_kept cells at k w)
    ∙ ap (λ n. stored_width (kind_at cells k) + n) (widths_kept cells at w order)
    ∙ sym (sum_by-cons (λ n. stored_width (kind_at cells n)) k order)

-- ---- the items that are left

pub next_item : (order : List ℕ) (i : ℕ) → i < length order → drop i order ≡ get_or order i 0 ∷ drop (i + 1) order
next_item order i h = drop-cons order i 0 h ∙ ap (λ n. get_or order i 0 ∷ drop n order) (sym (add-one i))

pub widths_next : (cells : List Cell) (order : List ℕ) (i : ℕ) → i < length order → widths cells (drop i order) ≡ stored_width (kind_at cells (get_or order i 0)) + widths cells (drop (i + 1) order)
widths_next cells order i h = ap (λ l. widths cells l) (next_item order i h) ∙ sum_by-cons (λ n. stored_width (kind_at cells n)) (get_or order i 0) (drop (i + 1) order)

pub widths_end : (cells : List Cell) (order : List ℕ) (i : ℕ) → length order ≤ i → widths cells (drop i order) ≡ 0
widths_end cells order i h = ap (λ l. widths cells l) (drop_all i order h)

pub bytes_next : (cells : List Cell) (order : List ℕ) (i : ℕ) (out new all : List ℕ) → i < length order → all ≡ out ++ bytes_of cells (drop i order) → new ≡ out ++ bytes_of cells (get_or order i 0 ∷ []) → all ≡ new ++ bytes_of cells (drop (i + 1) order)
bytes_next cells order i out new all h is e =
    let at = get_or order i 0 in
    let item = stored (kind_at cells at) (value_at cells at) in
    let more = bytes_of cells (drop (i + 1) order) in
    is ∙ ap (λ l. out ++ bytes_of cells l) (next_item order i h) ∙ sym (append_assoc out item more)
    ∙ ap (λ l. l ++ more) (ap (λ l. out ++ l) (sym (alone item)) ∙ sym e)
  where
    alone : (l : List ℕ) → l ++ [] ≡ l
    alone [] = refl
    alone (x ∷ xs) = ap (λ l. x ∷ l) (alone xs)

pub bytes_end : (cells : List Cell) (order : List ℕ) (i : ℕ) (out all : List ℕ) → length order ≤ i → all ≡ out ++ bytes_of cells (drop i order) → out ≡ all
bytes_end cells order i out all h is = sym (is ∙ ap (λ l. out ++ bytes_of cells l) (drop_all i order h) ∙ alone out)
  where
    alone : (l : List ℕ) → l ++ [] ≡ l
    alone [] = refl
    alone (x ∷ xs) = ap (λ l. x ∷ l) (alone xs)

pub values_next : (cells : List Cell) (order : List ℕ) (i from width : ℕ) (bytes : List ℕ) → i < length order → width ≡ stored_width (kind_at cells (get_or order i 0))
    → values_from cells (drop i order) (drop from bytes)
    ≡ values_from (with_value cells (get_or order i 0) (value_of (kind_at cells (get_or order i 0)) (take width (drop from bytes)))) (drop (i + 1) order) (drop (from + width) bytes)
values_next cells order i from width bytes h is =
    let at = get_or order i 0 in
    let step = ap (λ l. values_from cells l (drop from bytes)) (next_item order i h) in
    let all : ℕ → List Cell = λ w. values_from (with_value cells at (value_of (kind_at cells at) (take w (drop from bytes)))) (drop (i + 1) order) (drop w (drop from bytes)) in
    step ∙ ap all (sym is) ∙ ap (λ l. values_from (with_value cells at (value_of (kind_at cells at) (take width (drop from bytes)))) (drop (i + 1) order) l) (drop-drop width from bytes)

-- the bytes from a place to the end
pub rest_is : (bytes : List ℕ) (from : ℕ) → take (length bytes - from) (drop from bytes) ≡ drop from bytes
rest_is bytes from = take_all (length bytes - from) (drop from bytes) (omega (arith, length-drop from bytes))

pub values_end : (cells : List Cell) (order bytes : List ℕ) (i : ℕ) → length order ≤ i → values_from cells (drop i order) bytes ≡ cells
values_end cells order bytes i h = ap (λ l. values_from cells l bytes) (drop_all i order h)

-- ---- the bytes of a row

row_bytes : (place : Place) (kind : Kind) (values : List Value) → flat_map (λ (cell : Cell). stored cell.kind cell.value) (row_cells place kind values) ≡ flat_map (stored kind) values
row_bytes place kind [] = refl
row_bytes place kind (v ∷ vs) = ap (λ l. stored kind v ++ l) (row_bytes (record place { index = place.index + 1 }) kind vs)

pub row_stored : (place : Place) (kind : Kind) (values : List Value) → bytes_of (row_cells place kind values) (range_with_len 0 (length values)) ≡ flat_map (stored kind) values
row_stored place kind values =
    by_number (λ o. stored (option_map_or (λ (cell : Cell). cell.kind) o Logical) (option_map_or (λ (cell : Cell). cell.value) o Undefined)) [] place kind values ∙ row_bytes place kind values
