-- Cells that get values of their kinds, and items that get them.
use Rattle.std.proofs.Common.{◌≡◌, ℕ, zero, suc, ◌+◌, ◌-◌, ◌≤◌, ◌⊎◌, Bool, true, false, List, [], ◌∷◌, length, take, drop, Some, refl, sym, ap, subst, ◌∙◌, inl, inr, arith, length-drop, length-take}
use Rattle.std.specs.Prelude.{slice_get}
use Rattle.fj_value.specs.Kind.{IsOfKind}
use Rattle.fj_value.specs.declared.kind.Kind.{Kind}
use Rattle.fj_value.specs.declared.place.Place.{Place}
use Rattle.fj_value.specs.declared.value.Cell.{Cell}
use Rattle.fj_value.specs.declared.value.Value.{Value}
use Rattle.fj_value.specs.declared.value.Value.TheVariants.{Undefined}
use Rattle.fj_value.specs.declared.condition.Condition.{Condition}
use Rattle.fj_unfrec.specs.Stored.{stored_width, value_of}
use Rattle.fj_list.specs.ConstantLaws.{HaveKinds}
use Rattle.fj_list.specs.declared.constant.Form.{Form}
use Rattle.fj_list.specs.declared.constant.Form.TheVariants.{Null}
use Rattle.fj_list.specs.declared.constant.Read.{Read}
use Rattle.fj_list.specs.declared.constant.Read.TheVariants as read
use Rattle.fj_list.specs.Constant.{read_as}
use Rattle.fj_list.specs.Stream.{Stream, stream}
use Rattle.fj_list.specs.ListInput.{Split, stopped, Outcome, split, supplied, served, served_from, items_read, list_input}
use Rattle.fj_moved.specs.Cells.{kind_at, with_value, places_of}
use Rattle.fj_list.specs.ListInput as list
use Rattle.fj_moved.proofs.CellLemmas.{places_kept}
use Rattle.fj_list.proofs.Constants.{kinds_kept}
use Rattle.fj_transfer.specs.Transfer.{with_undefined, values_from, widths}
use Rattle.fj_transfer.proofs.StoredLemmas.{kind_there, widths_of_cons, widths_kept}
use Rattle.fj_transfer_laws.specs.Kinds.{KeepKinds}
use Rattle.fj_transfer_laws.proofs.ValueKinds.{bytes_are_of_kind}

-- ---- one cell

-- undefined, or of the kind
abbrev pub MayBe : Kind → Value → Type 0
MayBe kind v = (v ≡ Undefined) ⊎ IsOfKind kind v

-- a value may be that of a cell, if there is one
abbrev pub IsFor : List Cell → ℕ → Value → Type 0
IsFor cells at v = (cell : Cell) → slice_get cells at ≡ Some cell → MayBe cell.kind v

value_set : (cells : List Cell) (at : ℕ) (v : Value) → IsFor cells at v → HaveKinds cells → HaveKinds (with_value cells at v)
value_set [] at v is h = tt
value_set (cell ∷ cells) zero v is h = (is cell refl, h.1)
value_set (cell ∷ cells) (suc at) v is h = (h.0, value_set cells at v is h.1)

pub cell_set : (old cells : List Cell) (at : ℕ) (v : Value) → IsFor cells at v → KeepKinds old cells → KeepKinds old (with_value cells at v)
cell_set old cells at v is h = record { values = value_set cells at v is h.values; places = places_kept cells at v ∙ h.places }

pub item_set : (old cells : List Cell) (at : ℕ) (v : Value) → MayBe (kind_at cells at) v → KeepKinds old cells → KeepKinds old (with_value cells at v)
item_set old cells at v is = cell_set old cells at v (λ cell there. subst (λ kind. MayBe kind v) (sym (kind_there cells at cell there)) is)

-- ---- all of them

none_defined : (cells : List Cell) → HaveKinds (with_undefined cells)
none_defined [] = tt
none_defined (cell ∷ cells) = (inl refl, none_defined cells)

undefined_places : (cells : List Cell) → places_of (with_undefined cells) ≡ places_of cells
undefined_places [] = refl
undefined_places (cell ∷ cells) = ap (λ ps. (cell.place, cell.kind) ∷ ps) (undefined_places cells)

pub undefined_kept : (old cells : List Cell) → KeepKinds old cells → KeepKinds old (with_undefined cells)
undefined_kept old cells h = record { values = none_defined cells; places = undefined_places cells ∙ h.places }

pub unchanged : (cells : List Cell) → HaveKinds cells → KeepKinds cells cells
unchanged cells h = record { values = h; places = refl }

-- ---- out of bytes

pub bytes_kept : (old cells : List Cell) (order bytes : List ℕ) → widths cells order ≤ length bytes → KeepKinds old cells → KeepKinds old (values_from cells order bytes)
bytes_kept old cells [] bytes enough h = h
bytes_kept old cells (at ∷ order) bytes enough h =
    let width = stored_width (kind_at cells at) in
    let v = value_of (kind_at cells at) (take width bytes) in
    let all : width + widths cells order ≤ length bytes = omega (arith, enough, widths_of_cons cells at order) in
    let whole : length (take width bytes) ≡ width = omega (arith, all, length-take width bytes) in
    let rest : widths (with_value cells at v) order ≤ length (drop width bytes) = omega (arith, all, length-drop width bytes, widths_kept cells at v order) in
    bytes_kept old (with_value cells at v) order (drop width bytes) rest (item_set old cells at v (inr (bytes_are_of_kind (kind_at cells at) (take width bytes) whole)) h)

-- ---- list-directed

-- the places and kinds stay
abbrev Stay : List (Place × Kind) → (List Cell → Outcome) → Type 0
Stay places next = (cells : List Cell) → places_of cells ≡ places → places_of (next cells).cells ≡ places

served_stay : (places : List (Place × Kind)) (got : Read) (at : ℕ) (s : Stream) (next : List Cell → Outcome) → Stay places next → Stay places (λ cells. served got cells at s next)
served_stay places read.Null at s next on cells h = on cells h
served_stay places (read.Defined v) at s next on cells h = on (with_value cells at v) (places_kept cells at v ∙ h)
served_stay places (read.Wrong condition) at s next on cells h = h

split_stay : (places : List (Place × Kind)) (sp : Split) (at : ℕ) (next : ℕ → Form → List ℕ → Stream → List Cell → Outcome) → ((n : ℕ) (form : Form) (cs : List ℕ) (s : Stream) → Stay places (next n form cs s)) → Stay places (λ cells. served_from sp cells at next)
split_stay places (list.value n form cs s) at next on cells h = served_stay places (read_as (kind_at cells at) form cs) at s (next (n - 1) form cs s) (on (n - 1) form cs s) cells h
split_stay places (stopped condition s) at next on cells h = h

items_stay : (places : List (Place × Kind)) (comma : Bool) (ending : Condition) (order : List ℕ) (first : Bool) (n : ℕ) (form : Form) (cs : List ℕ) (s : Stream) → Stay places (λ cells. items_read comma ending order cells first n form cs s)
items_stay places comma ending [] first n form cs s cells h = h
items_stay places comma ending (at ∷ order) first n form cs s cells h =
    split_stay places (supplied n form cs s (split comma ending first s)) at (λ n' form' cs' s' cells'. items_read comma ending order cells' false n' form' cs' s')
    (λ n' form' cs' s'. items_stay places comma ending order false n' form' cs' s') cells h

list_stays : (comma : Bool) (lines : List (List ℕ)) (ending : Condition) (cells : List Cell) (order : List ℕ) → places_of (list_input comma lines ending cells order).cells ≡ places_of cells
list_stays comma [] ending cells order = refl
list_stays comma (line ∷ lines) ending cells order = items_stay (places_of cells) comma ending order true 0 Null [] (stream (line ∷ lines)) cells refl

pub list_kept : (comma : Bool) (lines : List (List ℕ)) (ending : Condition) (cells : List Cell) (order : List ℕ) → HaveKinds cells → KeepKinds cells (list_input comma lines ending cells order).cells
list_kept comma lines ending cells order h = record { values = kinds_kept comma lines ending cells order h; places = list_stays comma lines ending cells order }
