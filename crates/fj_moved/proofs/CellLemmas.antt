-- A cell gets a value.
use Rattle.std.proofs.Common.{◌≡◌, ℕ, zero, suc, List, [], ◌∷◌, length, set, Some, slice_get, sym, ap, refl}
use Rattle.std.proofs.lemmas.Option.{none-some, same_Some}
use Rattle.fj_value.specs.declared.value.Cell.{Cell}
use Rattle.fj_value.specs.declared.value.Value.{Value}
use Rattle.fj_moved.specs.Cells.{with_value, places_of}

pub set_value : (cells : List Cell) (at : ℕ) (cell : Cell) (v : Value) → slice_get cells at ≡ Some cell → set cells at (record cell { value = v }) ≡ with_value cells at v
set_value [] at cell v e = absurd (none-some cell e)
set_value (c ∷ cells) zero cell v e = ap (λ (d : Cell). record d { value = v } ∷ cells) (sym (same_Some c cell e))
set_value (c ∷ cells) (suc at) cell v e = ap (λ (cs : List Cell). c ∷ cs) (set_value cells at cell v e)

pub places_kept : (cells : List Cell) (at : ℕ) (v : Value) → places_of (with_value cells at v) ≡ places_of cells
places_kept [] at v = refl
places_kept (c ∷ cells) zero v = refl
places_kept (c ∷ cells) (suc at) v = ap (λ ps. (c.place, c.kind) ∷ ps) (places_kept cells at v)

pub count_kept : (cells : List Cell) (at : ℕ) (v : Value) → length (with_value cells at v) ≡ length cells
count_kept [] at v = refl
count_kept (c ∷ cells) zero v = refl
count_kept (c ∷ cells) (suc at) v = ap suc (count_kept cells at v)
