-- What list-directed and namelist WRITEs put, read again.
use Rattle.std.proofs.Common.{◌≡◌, ◌≢◌, ℕ, ◌+◌, ◌-◌, ◌≤◌, ◌&&◌, ◌||◌, Bool, true, false, cond, List, [], ◌∷◌, ◌++◌, length, map, drop, Result, Ok, Err, refl, sym, ap, subst, ◌∙◌, arith, append_assoc, append-nil}
use Rattle.std.specs.Prelude.{All}
use Rattle.std.proofs.lemmas.Bool.{le-ltb}
use Rattle.std.proofs.lemmas.List.{drop_at, length-append, length-take, length-drop}
use Rattle.fj_value.specs.Kind.{IsOfKind}
use Rattle.fj_value.specs.declared.kind.Kind.{Kind}
use Rattle.fj_value.specs.declared.value.Cell.{Cell}
use Rattle.fj_value.specs.declared.condition.Condition.{Condition}
use Rattle.fj_value.specs.declared.condition.Condition.TheVariants.{Fine, EndOfFile, Error}
use Rattle.fj_modes.specs.declared.modes.Modes.{Modes}
use Rattle.fj_modes.specs.declared.specifiers.Access.TheVariants.{Direct}
use Rattle.fj_modes.specs.declared.specifiers.Action.{Action as Allowed}
use Rattle.fj_modes.specs.declared.specifiers.Action.TheVariants.{ReadWrite}
use Rattle.fj_modes.specs.Words.{same_access}
use Rattle.fj_control.specs.Steps.{Given}
use Rattle.fj_line.specs.Line.{empty_line, written}
use Rattle.fj_line.specs.Actions.{Action, put, move, end_record, meet, AtHand as LineAtHand, first_record as line_begun, behind as done, condition_in, carried_out}
use Rattle.fj_line.specs.Records.{texts_of, MeetNone}
use Rattle.fj_moved.specs.declared.moved.Moved.{Moved}
use Rattle.fj_moved.specs.Items.{items_of, values_in}
use Rattle.fj_list.specs.Listing.{RecordsAreListed}
use Rattle.fj_list.specs.ListInput.{Outcome, list_input}
use Rattle.fj_list.specs.ListText.{text_of, listed}
use Rattle.fj_moved.specs.Moved.{value_at, values_of}
use Rattle.fj_list.specs.ReadAgain.{AreOfKinds, with_values}
use Rattle.fj_list.proofs.ReadAgain.{values_again}
use Rattle.fj_namelist.specs.GroupText.{group_written}
use Rattle.fj_namelist.specs.GroupInput.{group_input}
use Rattle.fj_namelist.specs.GroupReadAgain.{with_members}
use Rattle.fj_namelist.proofs.Again.{again}
use Rattle.fj_seqrec.specs.Lines.{lines, behind_line}
use Rattle.fj_seqrec.specs.LineLaws.{IsPlain}
use Rattle.fj_seqrec.proofs.LastLine.{lines_behind}
use Rattle.fj_connect.specs.Connection.{Connection, bytes_before, bytes_behind, between, begun, missing_feed, past_record, with_records}
use Rattle.fj_connect.specs.PositionLaws.{Stands}
use Rattle.fj_transfer.specs.declared.change.EditChange.{EditChange}
use Rattle.fj_transfer.specs.declared.transfer.Layout.{Layout}
use Rattle.fj_transfer.specs.declared.transfer.Layout.TheVariants.{Unformatted, Explicit, Listed, Group}
use Rattle.fj_transfer.specs.Change.{changed}
use Rattle.fj_transfer.specs.Printing.{record_actions, control_of, actions_by, printed_of, if_fine}
use Rattle.fj_transfer.specs.Transfer.{Done, told_with, is_forbidden, unfit, up_to_excess, behind_them, records_to_come, condition_to_come, past_records, records_read, pieces_written, lines_written, from_place, if_fit, transfer_by, transfer}
use Rattle.fj_transfer.specs.TransferLaws.{AreOfTheirKinds}
use Rattle.fj_transfer.specs.Writing.{AreShort}
use Rattle.fj_transfer.proofs.PieceLemmas.{printed_ended, are_short}
use Rattle.fj_transfer_laws.specs.Statements.{laid_out}
use Rattle.fj_transfer_laws.specs.Listed.{ListedRecordsComeBack, GroupRecordsComeBack}
use Rattle.fj_transfer_laws.proofs.Performed.{all_false, none_true, fits_in_file, has_begun}
use Rattle.fj_transfer_laws.proofs.Begun.{is_formatted}
use Rattle.fj_transfer_laws.proofs.Lines.{put_at, open_ended, short_front}
use Rattle.fj_transfer_laws.proofs.Printed.{excess_never, unless_never, items_there}
use Rattle.fj_transfer_laws.proofs.LinesThere.{ArePlain, text_split, behind_first, behind_text}
use Rattle.fj_transfer_laws.proofs.WrittenBack.{are_plain}

-- ---- layouts without format control

abbrev IsLaid : Layout → Type 0
IsLaid Unformatted = ⊥
IsLaid (Explicit f) = ⊥
IsLaid Listed = Unit {0}
IsLaid (Group name members) = Unit {0}

-- the same tests
abbrev tests_of : Modes → Bool → Condition
tests_of modes input =
    let direct = same_access modes.access Direct in
    cond (cond modes.formatted false true || direct || false || (direct && true)) (Error 16) (cond (is_forbidden modes.action input) (Error 10) Fine)

laid_tests : (modes : Modes) (input : Bool) (layout : Layout) (edit : EditChange) → IsLaid layout → unfit modes (laid_out input layout edit) ≡ tests_of modes input
laid_tests modes input Unformatted edit laid = absurd laid
laid_tests modes input (Explicit f) edit laid = absurd laid
laid_tests modes input Listed edit laid = refl
laid_tests modes input (Group name members) edit laid = refl

no_steps : ℕ → List Given
no_steps = λ n. []

-- ---- a WRITE that is fine

none_never : (acts : List Action) (hand : LineAtHand) → MeetNone acts → carried_out hand acts ≢ Err Fine
none_never [] hand none = λ e. cc
none_never (put chars ∷ acts) hand none =
    let next = done (put chars) hand in
    unless_never (condition_in (put chars) hand) (carried_out next acts) (excess_never next.limit (next.start + length next.line.text) (length next.ended + length next.line.text)) (none_never acts next none)
none_never (move how ∷ acts) hand none = none_never acts (done (move how) hand) none
none_never (end_record ∷ acts) hand none =
    let next = done end_record hand in
    unless_never (condition_in end_record hand) (carried_out next acts) (excess_never next.limit (next.start + length next.line.text) (length next.ended + length next.line.text)) (none_never acts next none)
none_never (meet condition ∷ acts) hand none = absurd none

-- records that are all of what is put
all_put : (c : Connection) (cells : List Cell) (acts : List Action) (records : List (List ℕ)) (r : Result LineAtHand Condition) → texts_of acts ≡ records ++ [] ∷ []
    → carried_out (line_begun c.modes.recl (begun c)) acts ≡ r → r ≢ Err Fine → (lines_written c c (missing_feed c) true cells (if_fine acts r)).condition ≡ Fine
    → AreShort c.modes.recl records × (lines_written c c (missing_feed c) true cells (if_fine acts r) ≡ told_with (with_records c (missing_feed c ++ text_of records)) cells Fine)
all_put c cells acts records (Err condition) texts is never e = absurd (never (ap (λ (k : Condition). Err k) e))
all_put c cells acts records (Ok last) texts is never e =
    let first = line_begun c.modes.recl (begun c) in
    let p = printed_of (texts_of acts) in
    let P : List (List ℕ) → Type 0 = AreShort c.modes.recl in
    let text : missing_feed c ++ (text_of p.records ++ p.«open») ≡ missing_feed c ++ text_of records =
    ap (λ (l : List (List ℕ)). missing_feed c ++ (text_of (printed_of l).records ++ (printed_of l).«open»)) texts
    ∙ ap (λ (l : List (List ℕ)). missing_feed c ++ (text_of l ++ (printed_of (records ++ [] ∷ [])).«open»)) (printed_ended records)
    ∙ ap (λ l. missing_feed c ++ (text_of records ++ l)) (open_ended records) ∙ ap (λ l. missing_feed c ++ l) (append-nil (text_of records)) in
    let new = with_records c (missing_feed c ++ (text_of p.records ++ p.«open»)) in (
      short_front c.modes.recl records ([] ∷ []) (subst P texts (are_short c.modes.recl first last acts refl (omega arith) is)),
      fits_in_file c new cells e ∙ ap (λ l. told_with (with_records c l) cells Fine) text,
    )

abbrev acts_of : Connection → Layout → EditChange → Moved → List Action
acts_of c layout edit from = actions_by layout (control_of layout) (changed edit c.modes.edit) true from

record FineWrite (c : Connection) (layout : Layout) (edit : EditChange) (from : Moved) (records : List (List ℕ)) : Type 0 where
  formatted : c.modes.formatted ≡ true
  sequential : same_access c.modes.access Direct ≡ false
  short : AreShort c.modes.recl records
  is : transfer c (laid_out false layout edit) from ≡ told_with (with_records c (missing_feed c ++ text_of records)) from.cells Fine

-- the definition for such a layout
written_lines : (c : Connection) (layout : Layout) (edit : EditChange) (from : Moved) → IsLaid layout → same_access c.modes.access Direct ≡ false
    → from_place (control_of layout) c (laid_out false layout edit) from (Ok c) ≡ lines_written c c (missing_feed c) true from.cells (if_fine (acts_of c layout edit from) (carried_out (line_begun c.modes.recl (begun c)) (acts_of c layout edit from)))
written_lines c Unformatted edit from laid direct = absurd laid
written_lines c (Explicit f) edit from laid direct = absurd laid
written_lines c Listed edit from laid direct =
    let printed = if_fine (acts_of c Listed edit from) (carried_out (line_begun c.modes.recl (begun c)) (acts_of c Listed edit from)) in
    ap (λ b. cond b (pieces_written c c from.cells printed) (lines_written c c (missing_feed c) true from.cells printed)) direct
written_lines c (Group name members) edit from laid direct =
    let layout = Group name members in
    let printed = if_fine (acts_of c layout edit from) (carried_out (line_begun c.modes.recl (begun c)) (acts_of c layout edit from)) in
    ap (λ b. cond b (pieces_written c c from.cells printed) (lines_written c c (missing_feed c) true from.cells printed)) direct

fine_write : (c : Connection) (layout : Layout) (edit : EditChange) (from : Moved) (records : List (List ℕ)) → IsLaid layout → MeetNone (acts_of c layout edit from) → texts_of (acts_of c layout edit from) ≡ records ++ [] ∷ []
    → (transfer c (laid_out false layout edit) from).condition ≡ Fine → FineWrite c layout edit from records
fine_write c layout edit from records laid none texts e =
    let spec = laid_out false layout edit in
    let h = has_begun (control_of layout) c spec from e in
    let direct = same_access c.modes.access Direct in
    let t = all_false (cond c.modes.formatted false true) direct false (direct && true) (is_forbidden c.modes.action false) (sym (laid_tests c.modes false layout edit laid) ∙ h.fit) in
    let same : h.b ≡ c = let is = h.placed_is in cc in
    let acts = acts_of c layout edit from in
    let first = line_begun c.modes.recl (begun c) in
    let is : transfer c spec from ≡ lines_written c c (missing_feed c) true from.cells (if_fine acts (carried_out first acts)) =
    h.is ∙ ap (λ (x : Connection). from_place (control_of layout) c spec from (Ok x)) same ∙ written_lines c layout edit from laid t.1 in
    let p = all_put c from.cells acts records (carried_out first acts) texts refl (none_never acts first none) (ap (λ (d : Done). d.condition) (sym is) ∙ e) in
    record { formatted = is_formatted c.modes.formatted t.0; sequential = t.1; short = p.0; is = is ∙ p.1 }

-- ---- a READ of the records at the end of a file

up_to_all : (limit : ℕ) (records : List (List ℕ)) → AreShort limit records → (up_to_excess limit records ≡ records) × (behind_them limit records ≡ EndOfFile)
up_to_all limit [] short = (refl, refl)
up_to_all limit (t ∷ records) short =
    let more = up_to_all limit records short.1 in
    let fits = le-ltb limit (length t) short.0 in (
      ap (λ b. cond b [] (t ∷ up_to_excess limit records)) fits ∙ ap (λ l. t ∷ l) more.0,
      ap (λ b. cond b (Error 15) (behind_them limit records)) fits ∙ more.1,
    )

past_all : (records : List (List ℕ)) (x : Connection) → ArePlain records → x.spot.at ≤ length x.bytes → bytes_behind x ≡ text_of records → between x x.spot.at ≡ x → past_records records x ≡ between x (length x.bytes)
past_all [] x plain inside is same =
    let last : x.spot.at ≡ length x.bytes = omega (arith, inside, ap length is, length-drop x.spot.at x.bytes) in
    sym same ∙ ap (between x) last
past_all (t ∷ records) x plain inside is same =
    let line = t ++ 10 ∷ [] in
    let place = length x.bytes - length (text_of records) in
    let next : past_record x ≡ between x place = ap (λ l. between x (length x.bytes - length l)) (ap behind_line (is ∙ text_split t records) ∙ behind_first t (text_of records) plain.0) in
    let rest = behind_text x.bytes line (text_of records) x.spot.at is (omega (arith, length-append t (10 ∷ []))) in
    ap (past_records records) next ∙ past_all records (between x place) plain.1 (omega arith) rest refl

-- what an input comes to that leaves no record
all_read : (r : Connection) (records : List (List ℕ)) (cells cells' : List Cell) → ArePlain records → All IsPlain records → AreShort r.modes.recl records → r.spot.at ≤ length r.bytes → bytes_behind r ≡ text_of records → between r r.spot.at ≡ r
    → (records_to_come r ≡ records) × (condition_to_come r ≡ EndOfFile)
    × (records_read r r cells (record { cells = cells'; condition = Fine; left = [] }) ≡ told_with (between r (length r.bytes)) cells' Fine)
all_read r records cells cells' plain plain' short inside is same =
    let found : lines (bytes_behind r) ≡ records = ap lines is ∙ lines_behind [] records (λ some. absurd (omega (arith, some))) plain' in
    let up = up_to_all r.modes.recl records short in
    let P : Connection → Type 0 = λ x. (records_to_come x ≡ up_to_excess x.modes.recl (lines (bytes_behind x))) × (condition_to_come x ≡ behind_them x.modes.recl (lines (bytes_behind x))) in
    let outside = subst P same (refl, refl) in
    let come : records_to_come r ≡ records = outside.0 ∙ ap (up_to_excess r.modes.recl) found ∙ up.0 in (
      come,
      outside.1 ∙ ap (behind_them r.modes.recl) found ∙ up.1,
      ap (λ (l : List (List ℕ)). told_with (past_records l r) cells' Fine) come ∙ ap (λ k. told_with k cells' Fine) (past_all records r plain inside is same),
    )

-- ---- WRITE and READ

module _ (c : Connection) (layout : Layout) (edit : EditChange) (from into : Moved) (records : List (List ℕ)) (stands : Stands c) (laid : IsLaid layout) (w : FineWrite c layout edit from records) (action : c.modes.action ≡ ReadWrite) (plain : All IsPlain records) where
  abbrev new : Connection
  new = with_records c (missing_feed c ++ text_of records)

  abbrev start : Connection
  start = between new (c.spot.at + length (missing_feed c))

  start_there : (bytes_behind start ≡ text_of records) × (start.spot.at ≤ length start.bytes) × (between start (length start.bytes) ≡ new)
  start_there =
      let feed = missing_feed c in
      let before : length (bytes_before c) ≡ c.spot.at = omega (arith, length-take c.spot.at c.bytes, stands.in_file) in
      let front : length (bytes_before c ++ feed) ≡ c.spot.at + length feed = omega (arith, length-append (bytes_before c) feed, before) in
      let long : length new.bytes ≡ c.spot.at + length (feed ++ text_of records) = omega (arith, length-append (bytes_before c) (feed ++ text_of records), before) in (
        ap (drop (c.spot.at + length feed)) (sym (append_assoc (bytes_before c) feed (text_of records))) ∙ drop_at (bytes_before c ++ feed) (text_of records) (c.spot.at + length feed) front,
        omega (arith, long, length-append feed (text_of records)),
        ap (between start) long,
      )

  reads_on : (o : Outcome) → from_place (control_of layout) start (laid_out true layout edit) into (Ok start) ≡ records_read start start into.cells o → transfer start (laid_out true layout edit) into ≡ records_read start start into.cells o
  unfolding transfer_by
  reads_on o is =
      let direct = same_access c.modes.access Direct in
      let fit : unfit c.modes (laid_out true layout edit) ≡ Fine =
      laid_tests c.modes true layout edit laid
      ∙ none_true (cond c.modes.formatted false true) direct false (direct && true) (is_forbidden c.modes.action true) (ap (λ b. cond b false true) w.formatted) w.sequential refl (ap (λ b. b && true) w.sequential) (ap (λ (a : Allowed). is_forbidden a true) action) in
      ap (if_fit (control_of layout) start (laid_out true layout edit) into) fit ∙ is

  comes_back : (cells : List Cell) (o : Outcome) → o ≡ record { cells = cells; condition = Fine; left = [] } → from_place (control_of layout) start (laid_out true layout edit) into (Ok start) ≡ records_read start start into.cells o
      → transfer start (laid_out true layout edit) into ≡ told_with new cells Fine
  comes_back cells o is here =
      let there = start_there in
      reads_on o here
      ∙ ap (records_read start start into.cells) is
      ∙ (all_read start records into.cells cells (are_plain records plain) plain w.short there.1 there.0 refl).2
      ∙ ap (λ k. told_with k cells Fine) there.2

of_kinds : (from into : List Cell) (order order' : List ℕ) → AreOfTheirKinds from order into order' → AreOfKinds into order' (map (value_at from) order)
of_kinds from into [] [] h = tt
of_kinds from into [] (k ∷ order') h = absurd h
of_kinds from into (k ∷ order) [] h = absurd h
of_kinds from into (k ∷ order) (k' ∷ order') h =
    let P : Kind → Type 0 = λ kind. IsOfKind kind (value_at from k) in
    (subst P h.0 h.1, of_kinds from into order order' h.2)

pub listed_back : RecordsAreListed → ListedRecordsComeBack
listed_back are_listed c edit from into mark stands action marked kinds plain fine =
    let modes = changed edit c.modes.edit in
    let values = values_of from in
    let records = listed modes values in
    let items = items_there from.cells into.cells from.order into.order kinds in
    let law = are_listed modes (values_in (items_of from)) in
    let texts : texts_of (acts_of c Listed edit from) ≡ records ++ [] ∷ [] = law.1 ∙ ap (λ l. listed modes l ++ [] ∷ []) items.1 in
    let w = fine_write c Listed edit from records tt law.0 texts fine in
    let start' = start c Listed edit from into records stands tt w action plain in
    let there = start_there c Listed edit from into records stands tt w action plain in
    let read = all_read start' records into.cells into.cells (are_plain records plain) plain w.short there.1 there.0 refl in
    let o = list_input modes.comma (records_to_come start') (condition_to_come start') into.cells into.order in
    let is : o ≡ record { cells = with_values into.cells into.order values; condition = Fine; left = [] } =
    ap (λ (l : List (List ℕ)). list_input modes.comma l (condition_to_come start') into.cells into.order) read.0
    ∙ values_again modes values (condition_to_come start') into.cells into.order mark marked (of_kinds from.cells into.cells from.order into.order kinds) in
    let S : Done → Type 0 = λ d. transfer (between d.connection (c.spot.at + length (missing_feed c))) (laid_out true Listed edit) into ≡ told_with d.connection (with_values into.cells into.order values) Fine in
    subst S (sym w.is) (comes_back c Listed edit from into records stands tt w action plain (with_values into.cells into.order values) o is refl)

-- the records of a group
records_none : (records : List (List ℕ)) → MeetNone (record_actions records)
records_none [] = tt
records_none (t ∷ records) = records_none records

records_texts : (records : List (List ℕ)) → texts_of (record_actions records) ≡ records ++ [] ∷ []
records_texts [] = refl
records_texts (t ∷ records) = ap (λ l. l ∷ texts_of (record_actions records)) (one_text t) ∙ ap (λ (l : List (List ℕ)). t ∷ l) (records_texts records)
  where
    one_text : (t : List ℕ) → (written t empty_line).text ≡ t
    one_text [] = refl
    one_text (x ∷ xs) = put_at empty_line x xs (omega arith)

pub group_back : GroupRecordsComeBack
group_back c name members edit from into mark stands action marked named are_written share plain fine =
    let modes = changed edit c.modes.edit in
    let layout = Group name members in
    let records = group_written modes name members from.cells in
    let w = fine_write c layout edit from records tt (records_none records) (records_texts records) fine in
    let start' = start c layout edit from into records stands tt w action plain in
    let there = start_there c layout edit from into records stands tt w action plain in
    let read = all_read start' records into.cells into.cells (are_plain records plain) plain w.short there.1 there.0 refl in
    let o = group_input modes.comma (records_to_come start') (condition_to_come start') name members into.cells in
    let is : o ≡ record { cells = with_members members from.cells into.cells; condition = Fine; left = [] } =
    ap (λ (l : List (List ℕ)). group_input modes.comma l (condition_to_come start') name members into.cells) read.0
    ∙ again modes name members from.cells into.cells (condition_to_come start') mark marked named are_written share in
    let S : Done → Type 0 = λ d. transfer (between d.connection (c.spot.at + length (missing_feed c))) (laid_out true layout edit) into ≡ told_with d.connection (with_members members from.cells into.cells) Fine in
    subst S (sym w.is) (comes_back c layout edit from into records stands tt w action plain (with_members members from.cells into.cells) o is refl)
