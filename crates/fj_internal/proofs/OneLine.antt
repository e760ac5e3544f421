-- What a WRITE printed, as the one record of an element.
use Rattle.std.proofs.Common.{◌≡◌, ℕ, ◌+◌, ◌<◌, ◌≤◌, cond, Bool, List, [], ◌∷◌, length, map, Result, Ok, Err, refl, sym, ap, subst, ◌∙◌, arith}
use Rattle.std.specs.Prelude.{IfOk}
use Rattle.std.proofs.lemmas.Bool.{lt-ltb}
use Rattle.std.proofs.lemmas.List.{drop_all, length-drop}
use Rattle.fj_value.specs.declared.condition.Condition.{Condition}
use Rattle.fj_value.specs.declared.condition.Condition.TheVariants.{Fine, Error}
use Rattle.fj_value.specs.declared.edit.EditModes.{EditModes}
use Rattle.fj_value.specs.declared.value.Cell.{Cell}
use Rattle.fj_value.specs.declared.value.Value.{Value}
use Rattle.fj_modes.specs.Modes.{usual_edit}
use Rattle.fj_seqrec.specs.Lines.{lines, first_line, behind_line}
use Rattle.fj_seqrec.proofs.Positions.{line_feed_place}
use Rattle.fj_seqrec.proofs.LineLemmas.{lines_first}
use Rattle.fj_line.specs.declared.unwritten.Unwritten.{Unwritten}
use Rattle.fj_line.specs.declared.unwritten.Unwritten.TheVariants.{Met}
use Rattle.fj_moved.specs.Items.{Output, items_of}
use Rattle.fj_moved.specs.declared.moved.Moved.{Moved}
use Rattle.fj_transfer.specs.Change.{changed}
use Rattle.fj_transfer.specs.Printing.{Printed, actions_by, control_of, printed, printed_by}
use Rattle.fj_transfer.specs.Transfer.{ends_record}
use Rattle.fj_transfer.specs.Writing.{Prints}
use Rattle.fj_transfer.specs.declared.transfer.TransferSpec.{TransferSpec}
use Rattle.fj_internal.specs.Internal.{IsOutput, Put, put_if_fine, put_records, record_length, set_first, value_of}
use Rattle.fj_internal.specs.OneElement.{PutsOne, put_one}
use Rattle.fj_internal.specs.declared.one.One.{One}
use Rattle.fj_internal.specs.declared.one.One.TheVariants.{Kept}
use Rattle.fj_internal.proofs.Writing.{inside_is, prints_none, prints_text, text_condition}

abbrev put_by : Cell → List (List ℕ) → Put
put_by cell records = put_records records (cell ∷ [])

-- none
pub none_put : (bytes : List ℕ) (cell : Cell) → length bytes ≡ 0 → put_records (lines bytes) (cell ∷ []) ≡ record { elements = cell ∷ []; condition = Fine }
none_put [] cell none = refl
none_put (b ∷ bytes) cell none = absurd (omega (arith, none))

-- one, which ends with the bytes or a line feed behind it
pub one_put : (bytes : List ℕ) (cell : Cell) (size : ℕ) (v : Value) → 0 < length bytes → length bytes ≤ line_feed_place bytes + 1 → record_length (cell ∷ []) ≡ size → v ≡ value_of size (first_line bytes)
    → put_records (lines bytes) (cell ∷ []) ≡ record { elements = record cell { value = v } ∷ []; condition = Fine }
one_put bytes cell size v some last long is =
    let all : lines bytes ≡ first_line bytes ∷ [] = lines_first bytes some ∙ ap (λ (b : List ℕ). first_line bytes ∷ lines b) (drop_all (line_feed_place bytes + 1) bytes (omega (arith, last))) in
    ap (put_by cell) all
    ∙ ap (λ (n : ℕ). let p : Put = record { elements = record cell { value = value_of n (first_line bytes) } ∷ []; condition = Fine } in p) long
    ∙ ap (λ (x : Value). let p : Put = record { elements = record cell { value = x } ∷ []; condition = Fine } in p) (sym is)

-- more
pub more_put : (bytes : List ℕ) (cell : Cell) → line_feed_place bytes + 1 < length bytes → put_records (lines bytes) (cell ∷ []) ≡ record { elements = cell ∷ []; condition = Error 31 }
more_put bytes cell more =
    let left = length-drop (line_feed_place bytes + 1) bytes in
    let all : lines bytes ≡ first_line bytes ∷ first_line (behind_line bytes) ∷ lines (behind_line (behind_line bytes)) =
    lines_first bytes (omega (arith, more)) ∙ ap (λ (ls : List (List ℕ)). first_line bytes ∷ ls) (lines_first (behind_line bytes) (omega (arith, more, left))) in
    let records : List (List ℕ) = first_line bytes ∷ first_line (behind_line bytes) ∷ lines (behind_line (behind_line bytes)) in
    ap (put_by cell) all
    ∙ ap (λ b. cond b (let p : Put = record { elements = cell ∷ []; condition = Error 31 } in p) (let p : Put = record { elements = set_first (map (value_of (record_length (cell ∷ []))) records) (cell ∷ []); condition = Fine } in p))
    (lt-ltb 1 (length records) (omega arith))

-- ---- the statement

-- what was printed, or what kept it from being printed
abbrev pub Printing : ℕ → TransferSpec → List Output → EditModes → List ℕ → Result ℕ Unwritten → List ℕ → Type 0
Printing size spec items modes old result new = (moved : Moved) → items_of moved ≡ items
    → Prints 0 (printed_by size 0 (actions_by spec.layout (control_of spec.layout) modes spec.advance moved)) old result new

from_empty : (size : ℕ) (spec : TransferSpec) (items : List Output) (modes : EditModes) (old : List ℕ) (result : Result ℕ Unwritten) (new : List ℕ) → old ≡ [] → modes ≡ changed spec.edit usual_edit
    → Printing size spec items modes old result new → Printing size spec items (changed spec.edit usual_edit) [] result new
from_empty size spec items modes old result new empty usual h =
    let P : List ℕ → Type 0 = λ o. Printing size spec items modes o result new in
    let M : EditModes → Type 0 = λ m. Printing size spec items m [] result new in
    subst M usual (subst P empty h)

-- what becomes of it as a text
abbrev pub OneText : ℕ → List ℕ → Bool → One → Type 0
OneText size text ends one = (cell : Cell) → record_length (cell ∷ []) ≡ size → put_if_fine text (cell ∷ []) (text_condition text ends) ≡ put_one cell one

-- a text that was printed
pub text_put : (size : ℕ) (spec : TransferSpec) (items : List Output) (modes : EditModes) (old : List ℕ) (count : ℕ) (text : List ℕ) (ends : Bool) (one : One) → IsOutput spec → old ≡ [] → modes ≡ changed spec.edit usual_edit → ends ≡ ends_record spec
    → Printing size spec items modes old (Ok count) text → OneText size text ends one → PutsOne size spec items one
text_put size spec items modes old count text ends one is empty usual same prints put = λ cell moved long of.
    let pr : ℕ → Result Printed Condition = λ n. printed n 0 spec (control_of spec.layout) (changed spec.edit usual_edit) moved in
    let P : ℕ → Type 0 = λ n. Prints 0 (pr n) [] (Ok count) text in
    inside_is (control_of spec.layout) (cell ∷ []) spec moved is
    ∙ sym (prints_text (ends_record spec) moved.cells (cell ∷ []) (pr (record_length (cell ∷ []))) count text (subst P (sym long) (from_empty size spec items modes old (Ok count) text empty usual prints moved of)))
    ∙ ap (λ (b : Bool). put_if_fine text (cell ∷ []) (text_condition text b)) (sym same)
    ∙ put cell long

-- a condition
pub met_one : (size : ℕ) (spec : TransferSpec) (items : List Output) (modes : EditModes) (old : List ℕ) (met : Condition) (text : List ℕ) → IsOutput spec → old ≡ [] → modes ≡ changed spec.edit usual_edit
    → Printing size spec items modes old (Err (Met met)) text → PutsOne size spec items (Kept met)
met_one size spec items modes old met text is empty usual prints = λ cell moved long of.
    let pr : ℕ → Result Printed Condition = λ n. printed n 0 spec (control_of spec.layout) (changed spec.edit usual_edit) moved in
    let P : ℕ → Type 0 = λ n. Prints 0 (pr n) [] (Err (Met met)) text in
    inside_is (control_of spec.layout) (cell ∷ []) spec moved is
    ∙ sym (prints_none (ends_record spec) moved.cells (cell ∷ []) (pr (record_length (cell ∷ []))) met text (subst P (sym long) (from_empty size spec items modes old (Err (Met met)) text empty usual prints moved of)))

pub if_all : {T E : Type 0} → (r : Result T E) (P Q : T → Type 0) → ((x : T) → P x → Q x) → IfOk r P → IfOk r Q
if_all (Ok x) P Q f h = f x h
if_all (Err e) P Q f h = tt
