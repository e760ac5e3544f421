-- What a WRITE puts, on a file and into elements.
use Rattle.std.proofs.Common.{◌≡◌, ℕ, ◌+◌, Bool, true, false, cond, ltb, List, [], ◌++◌, length, Some, Result, Ok, Err, refl, sym, ap, ◌∙◌, arith, is_some}
use Rattle.std.proofs.lemmas.Bool.{le-ltb}
use Rattle.fj_value.specs.declared.edit.EditModes.{EditModes}
use Rattle.fj_value.specs.declared.value.Cell.{Cell}
use Rattle.fj_value.specs.declared.condition.Condition.{Condition}
use Rattle.fj_value.specs.declared.condition.Condition.TheVariants.{Fine, EndOfFile, EndOfRecord, Error}
use Rattle.fj_modes.specs.Modes.{usual_edit}
use Rattle.fj_modes.specs.OpenSpec.{bare}
use Rattle.fj_modes.specs.declared.specifiers.Access.{Access}
use Rattle.fj_modes.specs.declared.specifiers.Access.TheVariants.{Direct}
use Rattle.fj_modes.specs.Words.{same_access}
use Rattle.fj_control.specs.Steps.{Given}
use Rattle.fj_line.specs.declared.unwritten.Unwritten.TheVariants.{Met}
use Rattle.fj_list.specs.ListText.{text_of}
use Rattle.fj_moved.specs.declared.moved.Moved.{Moved}
use Rattle.fj_connect.specs.Connection.{Connection, begun, missing_feed}
use Rattle.fj_connect.specs.Positions.{ended}
use Rattle.fj_transfer.specs.Change.{changed}
use Rattle.fj_transfer.specs.Printing.{Printed, printed, open_count, IsRecords}
use Rattle.fj_transfer.specs.Transfer.{Done, in_error, told_with, with_text, read_by, written_by, records_written, lines_written, pieces_written, ends_record, from_place, if_fit, begins_at, is_forbidden, is_formatted, differ, transfer_by}
use Rattle.fj_transfer.specs.Writing.{Prints}
use Rattle.fj_transfer.specs.declared.transfer.TransferSpec.{TransferSpec}
use Rattle.fj_transfer.specs.declared.transfer.Layout.{Layout}
use Rattle.fj_transfer.specs.declared.transfer.Layout.TheVariants.{Unformatted, Explicit, Listed, Group}
use Rattle.fj_internal.specs.Internal.{IsOutput, Put, file_of, put_if_fine, record_length, written_inside}
use Rattle.fj_internal.specs.InternalLaws.{StandsAtRecords}
use Rattle.fj_internal.proofs.Reading.{unfit_is, fit_cond, begins_here}

-- ---- a WRITE on a file, where a record may begin

formatted_is : (l : Layout) → IsRecords l → differ true (is_formatted l) ≡ false
formatted_is Unformatted h = absurd h
formatted_is (Explicit f) h = refl
formatted_is Listed h = refl
formatted_is (Group name members) h = refl

-- with what is printed
by_records : (l : Layout) (control : ℕ → List Given) (c : Connection) (spec : TransferSpec) (modes : EditModes) (moved : Moved) → IsRecords l
    → written_by l control c c spec modes moved ≡ records_written c c spec moved.cells (printed c.modes.recl (begun c) spec control modes moved)
by_records Unformatted control c spec modes moved h = absurd h
by_records (Explicit f) control c spec modes moved h = refl
by_records Listed control c spec modes moved h = refl
by_records (Group name members) control c spec modes moved h = refl

pub written_is : (control : ℕ → List Given) (c : Connection) (spec : TransferSpec) (moved : Moved) → StandsAtRecords c → is_forbidden c.modes.action false ≡ false → begun c ≡ 0 → missing_feed c ≡ [] → IsOutput spec
    → transfer_by control c spec moved ≡ lines_written c c [] (ends_record spec) moved.cells (printed c.modes.recl 0 spec control (changed spec.edit usual_edit) moved)
unfolding transfer_by
written_is control c spec moved o allowed none fed is =
    let pr : EditModes → ℕ → Result Printed Condition = λ (m : EditModes) (n : ℕ). printed c.modes.recl n spec control (changed spec.edit m) moved in
    ap (if_fit control c spec moved) (unfit_is c spec o.access o.formatted (ap (is_forbidden c.modes.action) is.output ∙ allowed) is.rec is.pos)
    ∙ fit_cond control c spec moved (differ true (is_formatted spec.layout))
    ∙ ap (λ b. cond b (in_error c spec.input moved.cells (Error 16)) (from_place control c spec moved (begins_at spec (cond spec.input (ended c) c)))) (formatted_is spec.layout is.records)
    ∙ ap (λ b. from_place control c spec moved (begins_at spec (cond b (ended c) c))) is.output
    ∙ ap (from_place control c spec moved) (begins_here c spec o.after_end is.rec is.pos)
    ∙ ap (λ b. cond b (read_by spec.layout control c c spec (changed spec.edit c.modes.edit) moved) (written_by spec.layout control c c spec (changed spec.edit c.modes.edit) moved)) is.output
    ∙ by_records spec.layout control c spec (changed spec.edit c.modes.edit) moved is.records
    ∙ ap (λ (m : EditModes). records_written c c spec moved.cells (printed c.modes.recl (begun c) spec control (changed spec.edit m) moved)) o.edit
    ∙ ap (λ n. records_written c c spec moved.cells (printed c.modes.recl n spec control (changed spec.edit usual_edit) moved)) none
    ∙ ap (λ (a : Access). cond (same_access a Direct) (pieces_written c c moved.cells (printed c.modes.recl 0 spec control (changed spec.edit usual_edit) moved))
    (lines_written c c (cond (is_some spec.pos) [] (missing_feed c)) (ends_record spec) moved.cells (printed c.modes.recl 0 spec control (changed spec.edit usual_edit) moved))) o.access
    ∙ ap (λ p. lines_written c c (cond (is_some p) [] (missing_feed c)) (ends_record spec) moved.cells (printed c.modes.recl 0 spec control (changed spec.edit usual_edit) moved)) is.pos
    ∙ ap (λ feed. lines_written c c feed (ends_record spec) moved.cells (printed c.modes.recl 0 spec control (changed spec.edit usual_edit) moved)) fed

-- ---- the same into elements

abbrev pub empty_of : List Cell → Connection
empty_of elements = file_of (record bare { recl = Some (record_length elements) }) []

abbrev pub put_of : Bool → List Cell → List Cell → Result Printed Condition → Put
put_of ends cells elements pr =
    let done = lines_written (empty_of elements) (empty_of elements) [] ends cells pr in
    put_if_fine done.connection.bytes elements done.condition

pub inside_is : (control : ℕ → List Given) (elements : List Cell) (spec : TransferSpec) (moved : Moved) → IsOutput spec
    → written_inside control elements spec moved ≡ put_of (ends_record spec) moved.cells elements (printed (record_length elements) 0 spec control (changed spec.edit usual_edit) moved)
unfolding written_inside
inside_is control elements spec moved is =
    ap (λ (d : Done). put_if_fine d.connection.bytes elements d.condition)
    (written_is control (empty_of elements) spec moved (record { access = refl; formatted = refl; edit = refl; within = refl; after_end = refl }) refl refl refl is)

-- a condition leaves the elements
pub met_put : (ends : Bool) (cells elements : List Cell) (k : Condition) → record { elements = elements; condition = k } ≡ put_of ends cells elements (Err k)
met_put ends cells elements Fine = sym (ap (λ t. cond t (record { elements = elements; condition = Error 31 }) (record { elements = elements; condition = Fine })) (le-ltb (length elements) 0 (omega arith)))
met_put ends cells elements EndOfFile = refl
met_put ends cells elements EndOfRecord = refl
met_put ends cells elements (Error n) = refl

too_long : (t ends : Bool) (cells elements : List Cell) (text : List ℕ) (count : ℕ)
    → let c = empty_of elements in let done = cond t (in_error c false cells (Error 25)) (told_with (with_text c ends text count) cells Fine) in
    put_if_fine text elements (cond t (Error 25) Fine) ≡ put_if_fine done.connection.bytes elements done.condition
too_long true ends cells elements text count = refl
too_long false true cells elements text count = refl
too_long false false cells elements text count = refl

-- how long a file is that gets a text and the line feed of an open record
abbrev pub text_condition : List ℕ → Bool → Condition
text_condition text ends = cond (ltb 268435456 (length text + cond ends 0 1)) (Error 25) Fine

pub fine_put : (ends : Bool) (cells elements : List Cell) (p : Printed) → let text = text_of p.records ++ p.«open» in
    put_if_fine text elements (text_condition text ends) ≡ put_of ends cells elements (Ok p)
fine_put true cells elements p =
    let text = text_of p.records ++ p.«open» in
    too_long (ltb 268435456 (length (text_of p.records ++ p.«open») + 0)) true cells elements text (open_count 0 p)
fine_put false cells elements p =
    let text = text_of p.records ++ p.«open» in
    too_long (ltb 268435456 (length (text_of p.records ++ p.«open») + 1)) false cells elements text (open_count 0 p)

pub prints_text : (ends : Bool) (cells elements : List Cell) (pr : Result Printed Condition) (count : ℕ) (out : List ℕ) → Prints 0 pr [] (Ok count) out
    → put_if_fine out elements (text_condition out ends) ≡ put_of ends cells elements pr
prints_text ends cells elements (Ok p) count out h = ap (λ (text : List ℕ). put_if_fine text elements (text_condition text ends)) h.1 ∙ fine_put ends cells elements p
prints_text ends cells elements (Err k) count out h = absurd h

pub prints_none : (ends : Bool) (cells elements : List Cell) (pr : Result Printed Condition) (met : Condition) (out : List ℕ) → Prints 0 pr [] (Err (Met met)) out
    → record { elements = elements; condition = met } ≡ put_of ends cells elements pr
prints_none ends cells elements (Ok p) met out h = absurd h
prints_none ends cells elements (Err k) met out h = ap (λ (x : Condition). record { elements = elements; condition = x }) h.0 ∙ met_put ends cells elements k
