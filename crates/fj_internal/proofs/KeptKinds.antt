-- Elements that are written stay of their kind.
use Rattle.std.proofs.Common.{◌≡◌, ℕ, suc, ◌-◌, Bool, true, false, cond, ltb, List, [], ◌∷◌, length, map, take, replicate, Some, refl, sym, ap, subst, ◌∙◌, inr, arith}
use Rattle.std.specs.Prelude.{All, unwrap_or}
use Rattle.std.proofs.lemmas.List.{length-append, length-take, length-replicate}
use Rattle.fj_value.specs.Kind.{IsOfKind, text_length}
use Rattle.fj_value.specs.Reading.{assigned_text}
use Rattle.fj_value.specs.declared.condition.Condition.{Condition}
use Rattle.fj_value.specs.declared.condition.Condition.TheVariants.{Fine, EndOfFile, EndOfRecord, Error}
use Rattle.fj_value.specs.declared.kind.Kind.{Kind}
use Rattle.fj_value.specs.declared.kind.Kind.TheVariants.{Chars}
use Rattle.fj_value.specs.declared.place.Place.{Place}
use Rattle.fj_value.specs.declared.value.Cell.{Cell}
use Rattle.fj_modes.specs.OpenSpec.{bare}
use Rattle.fj_seqrec.specs.Lines.{lines}
use Rattle.fj_list.specs.ConstantLaws.{HaveKinds}
use Rattle.fj_moved.specs.Cells.{places_of}
use Rattle.fj_transfer.specs.Transfer.{transfer_by}
use Rattle.fj_internal.specs.Internal.{Put, file_of, value_of, set_first, put_if_fine, record_length, written_inside}
use Rattle.fj_internal.specs.InternalLaws.{ElementsKeepTheirKinds}

-- of one kind, and each undefined or of it
abbrev Kept : List Cell → List Cell → Type 0
Kept old new = HaveKinds new × (places_of new ≡ places_of old)

assigned_length : (size : ℕ) (text : List ℕ) → length (assigned_text size text) ≡ size
assigned_length size text =
    length-append (take size text) (replicate (size - length text) 32) ∙ omega (arith, length-take size text, length-replicate {A = ℕ} (size - length text) 32)

set_kept : (size : ℕ) (records : List (List ℕ)) (cells : List Cell) → All (λ (cell : Cell). cell.kind ≡ Chars size) cells → HaveKinds cells → Kept cells (set_first (map (value_of size) records) cells)
set_kept size [] cells all h = (h, refl)
set_kept size (r ∷ rs) [] all h = (tt, refl)
set_kept size (r ∷ rs) (cell ∷ cells) all h =
    let rest = set_kept size rs cells (λ k d low. all (suc k) d (omega arith)) h.1 in
    let K : Kind → Type 0 = λ k. IsOfKind k (value_of size r) in
    ((inr (subst K (sym (all 0 cell (omega arith))) (assigned_length size r)), rest.0), ap (λ (ps : List (Place × Kind)). (cell.place, cell.kind) ∷ ps) rest.1)

-- by the length of the first
first_kept : (size : ℕ) (records : List (List ℕ)) (cells : List Cell) → All (λ (cell : Cell). cell.kind ≡ Chars size) cells → HaveKinds cells → Kept cells (set_first (map (value_of (record_length cells)) records) cells)
first_kept size [] cells all h = (h, refl)
first_kept size (r ∷ rs) [] all h = (tt, refl)
first_kept size (r ∷ rs) (cell ∷ cells) all h =
    let same : record_length (cell ∷ cells) ≡ size = ap (λ (k : Kind). unwrap_or (text_length k) 0) (all 0 cell (omega arith)) in
    let P : ℕ → Type 0 = λ n. Kept (cell ∷ cells) (set_first (map (value_of n) (r ∷ rs)) (cell ∷ cells)) in
    subst P (sym same) (set_kept size (r ∷ rs) (cell ∷ cells) all h)

either_kept : (t : Bool) (cells : List Cell) (over set : Put) → Kept cells over.elements → Kept cells set.elements → Kept cells (cond t over set).elements
either_kept true cells over set a b = a
either_kept false cells over set a b = b

put_kept : (size : ℕ) (bytes : List ℕ) (cells : List Cell) (k : Condition) → All (λ (cell : Cell). cell.kind ≡ Chars size) cells → HaveKinds cells → Kept cells (put_if_fine bytes cells k).elements
put_kept size bytes cells Fine all h =
    either_kept (ltb (length cells) (length (lines bytes))) cells (record { elements = cells; condition = Error 31 }) (record { elements = set_first (map (value_of (record_length cells)) (lines bytes)) cells; condition = Fine })
    (h, refl) (first_kept size (lines bytes) cells all h)
put_kept size bytes cells EndOfFile all h = (h, refl)
put_kept size bytes cells EndOfRecord all h = (h, refl)
put_kept size bytes cells (Error n) all h = (h, refl)

pub kinds_kept : ElementsKeepTheirKinds
unfolding written_inside
kinds_kept control elements spec moved size all h =
    let done = transfer_by control (file_of (record bare { recl = Some (record_length elements) }) []) spec moved in
    put_kept size done.connection.bytes elements done.condition all h
