-- What internal files have of external ones.
use Rattle.std.proofs.Common.{◌≡◌, ◌≢◌, ◌⊎◌, ℕ, zero, suc, ◌+◌, ◌-◌, ◌≤◌, ◌==◌, ◌||◌, Bool, true, false, cond, ltb, List, [], ◌∷◌, ◌++◌, length, map, drop, Some, None, Result, Ok, Err, refl, sym, ap, subst, ◌∙◌, inl, inr, arith}
use Rattle.std.specs.Prelude.{All, slice_get, slice_index}
use Rattle.std.specs.List.{list_any}
use Rattle.std.proofs.lemmas.Bool.{ne_eqb, le-ltb, lt-ltb, cases_lt}
use Rattle.std.proofs.lemmas.List.{drop_all, drop_at, length-append, length-take}
use Rattle.std.proofs.lemmas.List.Folds.{list_any_none, list_any-from_Any}
use Rattle.fj_value.specs.declared.value.Cell.{Cell}
use Rattle.fj_value.specs.declared.condition.Condition.{Condition}
use Rattle.fj_value.specs.declared.condition.Condition.TheVariants.{Fine, Error}
use Rattle.fj_modes.specs.Modes.{usual_edit}
use Rattle.fj_modes.specs.OpenSpec.{bare}
use Rattle.fj_seqrec.specs.Lines.{lines}
use Rattle.fj_seqrec.specs.LineLaws.{IsPlain}
use Rattle.fj_seqrec.proofs.LastLine.{lines_behind}
use Rattle.fj_control.specs.Steps.{Given}
use Rattle.fj_list.specs.ListText.{text_of}
use Rattle.fj_moved.specs.Load.{with_undefined}
use Rattle.fj_moved.specs.declared.moved.Moved.{Moved}
use Rattle.fj_connect.specs.Connection.{Connection, bytes_before}
use Rattle.fj_transfer.specs.Change.{changed}
use Rattle.fj_transfer.specs.Printing.{Printed, printed}
use Rattle.fj_transfer.specs.Transfer.{Done, in_error, told_with, with_text, lines_written, ends_record, transfer_by}
use Rattle.fj_transfer.specs.declared.transfer.TransferSpec.{TransferSpec}
use Rattle.fj_internal.specs.Internal.{Put, Taken, file_of, taken_by, is_line_end, holds_line_end, records_of, record_length, value_of, set_first, put_records, put_if_fine, read_inside, written_inside}
use Rattle.fj_internal.specs.InternalLaws.{HasNoLineEnd, HaveRecords, PutsAlike, ReadsLikeAFile, EndsOfLinesAreRefused, WritesLikeAFile}
use Rattle.fj_internal.proofs.Reading.{read_alike}
use Rattle.fj_internal.proofs.Writing.{written_is, inside_is, put_of, met_put, fine_put, text_condition}

-- ---- READ

pub read_is : (control : ℕ → List Given) (elements : List Cell) (spec : TransferSpec) (moved : Moved) (text : List ℕ) → list_any holds_line_end (records_of elements) ≡ false → text ≡ text_of (records_of elements)
    → taken_by (transfer_by control (file_of bare text) spec moved) ≡ read_inside control elements spec moved
unfolding read_inside
read_is control elements spec moved text none is =
    ap (λ (t : List ℕ). taken_by (transfer_by control (file_of bare t) spec moved)) is
    ∙ sym (ap (λ b. cond b (record { cells = with_undefined moved.cells; count = None; condition = Error 32 }) (taken_by (transfer_by control (file_of bare (text_of (records_of elements))) spec moved))) none)

pub refused_is : (control : ℕ → List Given) (elements : List Cell) (spec : TransferSpec) (moved : Moved) → list_any holds_line_end (records_of elements) ≡ true
    → ◌≡◌ {A = Taken} (record { cells = with_undefined moved.cells; count = None; condition = Error 32 }) (read_inside control elements spec moved)
unfolding read_inside
refused_is control elements spec moved held =
    sym (ap (λ b. cond b (record { cells = with_undefined moved.cells; count = None; condition = Error 32 }) (taken_by (transfer_by control (file_of bare (text_of (records_of elements))) spec moved))) held)

pub is_end : (c : ℕ) → (c ≡ 10) ⊎ (c ≡ 13) → is_line_end c ≡ true
is_end c (inl e) = ap is_line_end e
is_end c (inr e) = ap is_line_end e

not_end : (c : ℕ) → (c ≢ 10) × (c ≢ 13) → is_line_end c ≡ false
not_end c h = ap (λ b. b || (c == 13)) (ne_eqb c 10 h.0) ∙ ne_eqb c 13 h.1

pub refused : EndsOfLinesAreRefused
refused control elements spec moved h =
    let text = h.1 in
    let held : list_any holds_line_end (records_of elements) ≡ true =
    list_any-from_Any holds_line_end (records_of elements) (h.0, h.1, h.2, h.3, list_any-from_Any is_line_end h.1 (h.4.0, h.4.1, h.4.2, h.4.3, is_end h.4.1 h.4.4)) in
    ap (λ (t : Taken). t.condition) (sym (refused_is control elements spec moved held))

no_return : (line : List ℕ) (n : ℕ) → All (λ c. (c ≢ 10) × (c ≢ 13)) line → n ≡ length line - 1 → slice_index line n ≢ 13
no_return [] n h is = λ e. cc
no_return (x ∷ xs) n h is = (h n 0 (omega arith)).1

pub plain : (line : List ℕ) → HasNoLineEnd line → IsPlain line
plain line h = (λ k d low. (h k d low).0, no_return line (length line - 1) h refl)

pub reads_alike : ReadsLikeAFile
reads_alike control c elements spec moved o allowed limit is none ahead =
    let records = records_of elements in
    let clean : list_any holds_line_end (records_of elements) ≡ false = list_any_none holds_line_end (records_of elements) (λ k d low. list_any_none is_line_end _ (λ j b below. not_end _ (none k d low j b below))) in
    let same : lines (text_of (records_of elements)) ≡ records_of elements = lines_behind [] (records_of elements) (λ some. absurd (omega (arith, some))) (λ k d low. plain _ (none k d low)) in
    sym (read_is control elements spec moved (text_of (records_of elements)) clean refl)
    ∙ read_alike control (file_of bare (text_of (records_of elements))) c spec moved (record { access = refl; formatted = refl; edit = refl; within = refl; after_end = refl }) o refl allowed (sym limit) (same ∙ sym ahead) is

-- ---- WRITE

first_set : (size : ℕ) (records : List (List ℕ)) (cells : List Cell) (k : ℕ) (text : List ℕ) (cell : Cell) → slice_get records k ≡ Some text → slice_get cells k ≡ Some cell
    → slice_get (set_first (map (value_of size) records) cells) k ≡ Some (record cell { value = value_of size text })
first_set size [] cells k text cell a b = cc
first_set size (r ∷ rs) [] k text cell a b = cc
first_set size (r ∷ rs) (x ∷ xs) zero text cell a b =
    let same : r ≡ text = cc in
    let here : x ≡ cell = cc in
    ap (λ (y : Cell). Some (record y { value = value_of size r })) here ∙ ap (λ (t : List ℕ). Some (record cell { value = value_of size t })) same
first_set size (r ∷ rs) (x ∷ xs) (suc k) text cell a b = first_set size rs xs k text cell a b

others_set : (size : ℕ) (records : List (List ℕ)) (cells : List Cell) (k : ℕ) → length records ≤ k → slice_get (set_first (map (value_of size) records) cells) k ≡ slice_get cells k
others_set size [] cells k past = refl
others_set size (r ∷ rs) [] k past = refl
others_set size (r ∷ rs) (x ∷ xs) zero past = absurd (omega (arith, past))
others_set size (r ∷ rs) (x ∷ xs) (suc k) past = others_set size rs xs k (omega arith)

have_none : (size : ℕ) (cells : List Cell) → HaveRecords [] size cells cells
have_none size cells = record { first = λ k text cell a b. cc; others = λ k past. refl }

have_set : (size : ℕ) (records : List (List ℕ)) (cells : List Cell) → HaveRecords records size cells (set_first (map (value_of size) records) cells)
have_set size records cells = record { first = first_set size records cells; others = others_set size records cells }

met_alike : (c : Connection) (cells elements : List Cell) (k : Condition) → c.spot.at ≡ length c.bytes → PutsAlike c elements (in_error c false cells k) (record { elements = elements; condition = k })
met_alike c cells elements k end =
    let none : lines (drop c.spot.at c.bytes) ≡ [] = ap lines (drop_all c.spot.at c.bytes (omega (arith, end))) in
    let H : List (List ℕ) → Type 0 = λ ls. HaveRecords ls (record_length elements) elements elements in
    record {
      fits = λ fine few. (fine, subst H (sym none) (have_none (record_length elements) elements));
      exceeds = λ fine more. absurd (omega (arith, more, ap (λ (l : List (List ℕ)). length l) none));
      fails = λ a b. refl;
    }

long_alike : (c : Connection) (elements cells : List Cell) (put : Put) → PutsAlike c elements (in_error c false cells (Error 25)) put
long_alike c elements cells put = record { fits = λ fine few. cc; exceeds = λ fine more. cc; fails = λ a b. absurd (b refl) }

records_alike : (c : Connection) (elements : List Cell) (done : Done) (text : List ℕ) → done.condition ≡ Fine → drop c.spot.at done.connection.bytes ≡ text → PutsAlike c elements done (put_records (lines text) elements)
records_alike c elements done text fine is =
    let size = record_length elements in
    let same : lines (drop c.spot.at done.connection.bytes) ≡ lines text = ap lines is in
    let over : Put = record { elements = elements; condition = Error 31 } in
    let set : Put = record { elements = set_first (map (value_of (record_length elements)) (lines text)) elements; condition = Fine } in
    let F : Put → Type 0 = λ q. (q.condition ≡ Fine) × HaveRecords (lines (drop c.spot.at done.connection.bytes)) (record_length elements) elements q.elements in
    let H : List (List ℕ) → Type 0 = λ ls. HaveRecords ls (record_length elements) elements (set_first (map (value_of (record_length elements)) (lines text)) elements) in
    record {
      fits = λ _ few. subst F (sym (ap (λ t. cond t over set) (le-ltb (length elements) (length (lines text)) (omega (arith, few, ap (λ (l : List (List ℕ)). length l) same)))))
          (refl, subst H (sym same) (have_set (record_length elements) (lines text) elements));
      exceeds = λ _ more. ap (λ t. cond t over set) (lt-ltb (length elements) (length (lines text)) (omega (arith, more, ap (λ (l : List (List ℕ)). length l) same)));
      fails = λ a b. absurd (a fine);
    }

text_bytes : (c : Connection) (ends : Bool) (text : List ℕ) (count : ℕ) → (with_text c ends text count).bytes ≡ bytes_before c ++ text
text_bytes c true text count = refl
text_bytes c false text count = refl

pub text_behind : (c : Connection) (ends : Bool) (text : List ℕ) (count : ℕ) → c.spot.at ≡ length c.bytes → drop c.spot.at (with_text c ends text count).bytes ≡ text
text_behind c ends text count end =
    let before : length (bytes_before c) ≡ c.spot.at = length-take c.spot.at c.bytes ∙ omega (arith, end) in
    ap (drop c.spot.at) (text_bytes c ends text count) ∙ ap (λ n. drop n (bytes_before c ++ text)) (sym before) ∙ drop_at (bytes_before c) text (length (bytes_before c)) refl

short_alike : (c : Connection) (ends : Bool) (elements cells : List Cell) (text : List ℕ) (count : ℕ) → c.spot.at ≡ length c.bytes → PutsAlike c elements (told_with (with_text c ends text count) cells Fine) (put_records (lines text) elements)
short_alike c ends elements cells text count end = records_alike c elements (told_with (with_text c ends text count) cells Fine) text refl (text_behind c ends text count end)

-- the text as a whole, with the line feed of an open record
abbrev text_done : Bool → Connection → List Cell → List ℕ → ℕ → ℕ → Done
text_done ends c cells text count feed = cond (ltb 268435456 (length (with_text c ends text count).bytes + feed)) (in_error c false cells (Error 25)) (told_with (with_text c ends text count) cells Fine)

sized_alike : (ends : Bool) (c : Connection) (elements cells : List Cell) (text : List ℕ) (count feed : ℕ) → c.spot.at ≡ length c.bytes
    → PutsAlike c elements (text_done ends c cells text count feed) (put_if_fine text elements (cond (ltb 268435456 (length text + feed)) (Error 25) Fine))
sized_alike ends c elements cells text count feed end =
    let put = put_if_fine text elements (cond (ltb 268435456 (length text + feed)) (Error 25) Fine) in
    let long : length (with_text c ends text count).bytes ≡ length (bytes_before c) + length text = ap (λ (b : List ℕ). length b) (text_bytes c ends text count) ∙ length-append (bytes_before c) text in
    elim (cases_lt 268435456 (length (with_text c ends text count).bytes + feed)) [
      | inl past ↦
          let D : Bool → Type 0 = λ t. PutsAlike c elements (cond t (in_error c false cells (Error 25)) (told_with (with_text c ends text count) cells Fine)) (put_if_fine text elements (cond (ltb 268435456 (length text + feed)) (Error 25) Fine)) in
          subst D (sym (lt-ltb 268435456 (length (with_text c ends text count).bytes + feed) past)) (long_alike c elements cells (put_if_fine text elements (cond (ltb 268435456 (length text + feed)) (Error 25) Fine)))
      | inr short ↦
          let D : Bool → Type 0 = λ t. PutsAlike c elements (cond t (in_error c false cells (Error 25)) (told_with (with_text c ends text count) cells Fine)) (put_if_fine text elements (cond (ltb 268435456 (length text + feed)) (Error 25) Fine)) in
          let Q : Bool → Type 0 = λ t. PutsAlike c elements (told_with (with_text c ends text count) cells Fine) (put_if_fine text elements (cond t (Error 25) Fine)) in
          subst D (sym (le-ltb 268435456 (length (with_text c ends text count).bytes + feed) short))
          (subst Q (sym (le-ltb 268435456 (length text + feed) (omega (arith, short, long)))) (short_alike c ends elements cells text count end))
    ]

text_alike : (ends : Bool) (c : Connection) (elements cells : List Cell) (text : List ℕ) (count : ℕ) → c.spot.at ≡ length c.bytes
    → PutsAlike c elements (text_done ends c cells text count (cond ends 0 1)) (put_if_fine text elements (text_condition text ends))
text_alike ends c elements cells text count end = sized_alike ends c elements cells text count (cond ends 0 1) end

printed_alike : (c : Connection) (ends : Bool) (elements cells : List Cell) (pr : Result Printed Condition) → c.spot.at ≡ length c.bytes → PutsAlike c elements (lines_written c c [] ends cells pr) (put_of ends cells elements pr)
printed_alike c ends elements cells (Err k) end = subst (PutsAlike c elements (in_error c false cells k)) (met_put ends cells elements k) (met_alike c cells elements k end)
printed_alike c ends elements cells (Ok p) end =
    let text = text_of p.records ++ p.«open» in
    subst (PutsAlike c elements (lines_written c c [] ends cells (Ok p))) (fine_put ends cells elements p) (text_alike ends c elements cells (text_of p.records ++ p.«open») _ end)

pub writes_alike : WritesLikeAFile
writes_alike control c elements spec moved o allowed limit end none fed is =
    let pr = λ (n : ℕ). printed n 0 spec control (changed spec.edit usual_edit) moved in
    let outside : transfer_by control c spec moved ≡ lines_written c c [] (ends_record spec) moved.cells (printed (record_length elements) 0 spec control (changed spec.edit usual_edit) moved) =
    written_is control c spec moved o allowed none fed is ∙ ap (λ n. lines_written c c [] (ends_record spec) moved.cells (printed n 0 spec control (changed spec.edit usual_edit) moved)) limit in
    let D : Done → Type 0 = λ d. PutsAlike c elements d (written_inside control elements spec moved) in
    subst D (sym outside) (subst (PutsAlike c elements (lines_written c c [] (ends_record spec) moved.cells (printed (record_length elements) 0 spec control (changed spec.edit usual_edit) moved))) (sym (inside_is control elements spec moved is))
    (printed_alike c (ends_record spec) elements moved.cells (printed (record_length elements) 0 spec control (changed spec.edit usual_edit) moved) end))
