-- What a WRITE puts under a format, read again.
use Rattle.std.proofs.Common.{◌&&◌, ◌≡◌, ◌≢◌, ℕ, suc, ◌+◌, ◌≤◌, true, false, cond, List, [], ◌∷◌, ◌++◌, length, map, drop, Some, None, Result, Ok, Err, refl, sym, ap, subst, ◌∙◌, arith, append_assoc, append-nil}
use Rattle.std.specs.Prelude.{All}
use Rattle.std.proofs.lemmas.List.{drop_at, length-append, length-take}
use Rattle.fj_value.specs.declared.value.Cell.{Cell}
use Rattle.fj_value.specs.declared.condition.Condition.{Condition}
use Rattle.fj_value.specs.declared.condition.Condition.TheVariants.{Fine}
use Rattle.fj_modes.specs.declared.specifiers.Action.{Action as Allowed}
use Rattle.fj_modes.specs.declared.specifiers.Access.TheVariants.{Direct}
use Rattle.fj_modes.specs.Words.{same_access}
use Rattle.fj_format.specs.declared.item.FormatItem.{FormatItem}
use Rattle.fj_format.specs.Unfolding.{pass}
use Rattle.fj_control.specs.Steps.{control, round, rounds, steps}
use Rattle.fj_control.specs.Paired.{Part, paired}
use Rattle.fj_line.specs.Line.{farthest, empty_line}
use Rattle.fj_line.specs.Actions.{Action, end_record, AtHand as LineAtHand, first_record as line_begun, carried_out}
use Rattle.fj_line.specs.Records.{texts_of, MeetNone}
use Rattle.fj_moved.specs.declared.moved.Moved.{Moved}
use Rattle.fj_moved.specs.Items.{items_of, values_in}
use Rattle.fj_list.specs.ListText.{text_of}
use Rattle.fj_moved.specs.Moved.{values_of}
use Rattle.fj_list.specs.ReadAgain.{with_values}
use Rattle.fj_seqrec.specs.LineLaws.{IsPlain}
use Rattle.fj_connect.specs.Connection.{Connection, bytes_before, bytes_behind, between, begun, missing_feed, in_record, with_records, past_end}
use Rattle.fj_transfer.specs.declared.change.EditChange.{EditChange}
use Rattle.fj_transfer.specs.AtHand.{AtHand, behind, line_at, first_record, record_numbered}
use Rattle.fj_transfer.specs.Change.{changed}
use Rattle.fj_transfer.specs.Explicit.{action_of}
use Rattle.fj_transfer.specs.Input.{carried_out as read_out, left_at}
use Rattle.fj_transfer.specs.Printing.{printed_of, if_fine}
use Rattle.fj_transfer.specs.Transfer.{Done, Ways, told_with, input_done, is_forbidden, pieces_written, lines_written, from_place, transfer_by, transfer}
use Rattle.fj_transfer.specs.Writing.{AreShort}
use Rattle.fj_transfer_laws.specs.Statements.{reading, writing}
use Rattle.fj_transfer_laws.specs.RoundTrip.{characters_in, written_parts, written_records, FormattedRecordsComeBack}
use Rattle.fj_transfer_laws.proofs.Performed.{all_false, fits_in_file, longest, has_begun}
use Rattle.fj_transfer_laws.proofs.Begun.{IsFit, is_formatted, fits, SameFile, starting, reads_as}
use Rattle.fj_transfer_laws.proofs.Printed.{acts_never, is_printed, items_there}
use Rattle.fj_transfer_laws.proofs.LinesThere.{IsThere, ArePlain, line_there, there_first, line_text, next_line, last_line}
use Rattle.fj_transfer_laws.proofs.RecordsBack.{AreThere, Back, some_texts, read_back}

-- ---- a WRITE that is fine

-- what is known of it
pub record FineWrite (c : Connection) (f : List FormatItem) (edit : EditChange) (from : Moved) : Type 0 where
  pub formatted : c.modes.formatted ≡ true
  pub sequential : same_access c.modes.access Direct ≡ false
  pub none : MeetNone (map action_of (written_parts c edit f from))
  pub short : AreShort c.modes.recl (written_records c edit f from)
  pub is : transfer c (writing f edit) from ≡ told_with (with_records c (missing_feed c ++ text_of (written_records c edit f from))) from.cells Fine

module _ (c : Connection) (cells : List Cell) (acts : List Action) where
  abbrev all_acts : List Action
  all_acts = acts ++ end_record ∷ []

  abbrev lines_of_result : Result LineAtHand Condition → Done
  lines_of_result r = lines_written c c (missing_feed c) true cells (if_fine all_acts r)

  -- its lines
  printed_fine : (r : Result LineAtHand Condition) → carried_out (line_begun c.modes.recl (begun c)) all_acts ≡ r → r ≢ Err Fine → (lines_of_result r).condition ≡ Fine
      → MeetNone acts × AreShort c.modes.recl (texts_of acts) × (lines_of_result r ≡ told_with (with_records c (missing_feed c ++ text_of (texts_of acts))) cells Fine)
  printed_fine (Err condition) is never e = absurd (never (ap (λ (k : Condition). Err k) e))
  printed_fine (Ok last) is never e =
      let p = printed_of (texts_of all_acts) in
      let known = is_printed c.modes.recl (line_begun c.modes.recl (begun c)) last acts refl refl is in
      let text : missing_feed c ++ (text_of p.records ++ p.«open») ≡ missing_feed c ++ text_of (texts_of acts) =
      ap (λ (l : List (List ℕ)). missing_feed c ++ (text_of l ++ p.«open»)) known.records
      ∙ ap (λ l. missing_feed c ++ (text_of (texts_of acts) ++ l)) known.«open» ∙ ap (λ l. missing_feed c ++ l) (append-nil (text_of (texts_of acts))) in
      let new = with_records c (missing_feed c ++ (text_of p.records ++ p.«open»)) in
      (known.none, known.short, fits_in_file c new cells e ∙ ap (λ l. told_with (with_records c l) cells Fine) text)

pub fine_write : (c : Connection) (f : List FormatItem) (edit : EditChange) (from : Moved) → (transfer c (writing f edit) from).condition ≡ Fine → FineWrite c f edit from
unfolding transfer_by
fine_write c f edit from e =
    let spec = writing f edit in
    let b = has_begun (steps f) c spec from e in
    let direct = same_access c.modes.access Direct in
    let t = all_false (cond c.modes.formatted false true) direct false (direct && false) (is_forbidden c.modes.action false) b.fit in
    let same : b.b ≡ c = let is = b.placed_is in cc in
    let here : transfer c spec from ≡ from_place (steps f) c spec from (Ok c) = b.is ∙ ap (λ (x : Connection). from_place (steps f) c spec from (Ok x)) same in
    let parts = written_parts c edit f from in
    let acts = map action_of parts in
    let r = carried_out (line_begun c.modes.recl (begun c)) (acts ++ end_record ∷ []) in
    let lines : transfer c spec from ≡ lines_written c c (missing_feed c) true from.cells (if_fine (acts ++ end_record ∷ []) r) =
    here ∙ ap (λ b. cond b (pieces_written c c from.cells (if_fine (acts ++ end_record ∷ []) r)) (lines_written c c (missing_feed c) true from.cells (if_fine (acts ++ end_record ∷ []) r))) t.1 in
    let p = printed_fine c from.cells acts r refl (acts_never parts (line_begun c.modes.recl (begun c))) (ap (λ (d : Done). d.condition) (sym lines) ∙ e) in
    record { formatted = is_formatted c.modes.formatted t.0; sequential = t.1; none = p.0; short = p.1; is = lines ∙ p.2 }

pub are_plain : (texts : List (List ℕ)) → All IsPlain texts → ArePlain texts
are_plain [] h = tt
are_plain (t ∷ ts) h = (h 0 [] (omega arith), are_plain ts (λ k d low. h (suc k) d (omega (arith, low))))

pub records_back : FormattedRecordsComeBack
records_back c f edit edit' from into stands long action kinds can plain fine =
    let w = fine_write c f edit from fine in
    let parts = written_parts c edit f from in
    let acts = map action_of parts in
    let records = texts_of acts in
    let feed = missing_feed c in
    let x = with_records c (feed ++ text_of records) in
    let r = between x (c.spot.at + length feed) in
    let some = some_texts acts empty_line in
    let t = some.0 in
    let ts = some.1.0 in
    let front : length (bytes_before c ++ feed) ≡ c.spot.at + length feed = omega (arith, length-append (bytes_before c) feed, length-take c.spot.at c.bytes, stands.in_file) in
    let rest : bytes_behind r ≡ text_of (t ∷ ts) =
    ap (drop (c.spot.at + length feed)) (sym (append_assoc (bytes_before c) feed (text_of records)))
    ∙ drop_at (bytes_before c ++ feed) (text_of records) (c.spot.at + length feed) front
    ∙ ap (λ (l : List (List ℕ)). text_of l) some.1.1 in
    let P : List (List ℕ) → Type 0 = λ l. AreShort c.modes.recl l in
    let short : AreShort c.modes.recl (t ∷ ts) = subst P some.1.1 w.short in
    let Q : List (List ℕ) → Type 0 = λ l. ArePlain l in
    let plain' : ArePlain (t ∷ ts) = subst Q some.1.1 (are_plain records plain) in
    let hand : AtHand = record { connection = in_record r r.spot.at 0; text = t } in
    let found : first_record r ≡ Ok hand = ap (λ b. cond b (record_numbered r r.spot.next_number) (line_at r)) w.sequential ∙ line_there r t ts rest plain'.0 short.0 in
    let same : SameFile r r = record { modes = refl; name = refl; bytes = refl; number = refl } in
    let fit : IsFit c.modes None = record { formatted = w.formatted; sequential = w.sequential; stream = refl; allowed = ap (λ (a : Allowed). is_forbidden a true) action } in
    let items = items_of from in
    let of_kinds = items_there from.cells into.cells from.order into.order kinds in
    let modes = changed edit c.modes.edit in
    let modes' = changed edit' c.modes.edit in
    let s = pass f ++ rounds (length items) (round f) in
    let low : c.modes.recl ≤ farthest = omega (arith, longest c.modes.formatted c.modes.recl long.1) in
    let known : AreThere (IsThere r) (between r (length r.bytes)) = record {
      text = line_text r w.sequential;
      short = λ h u us there. omega (arith, low, there.short.0);
      next = next_line r w.sequential;
      end = last_line r w.sequential;
    } in
    let back = read_back (IsThere r) (between r (length r.bytes)) known s modes modes' items into.order empty_line (starting hand into.cells) t ts (record {
      of_kinds = of_kinds.0;
      can = can;
      none = w.none;
      texts = some.1.1;
      behind = omega arith;
      at = refl;
      near = omega arith;
      there = there_first r r t ts same rest short plain';
    }) in
    let e = read_out true (paired modes' (steps f (length into.order)) into.order) (starting hand into.cells) in
    let many : paired modes' (control s (length into.order)) into.order ≡ paired modes' (steps f (length into.order)) into.order =
    ap (λ n. paired modes' (control (pass f ++ rounds n (round f)) (length into.order)) into.order) of_kinds.2 in
    let R : List (Part ℕ) → Type 0 = λ l. Back (between r (length r.bytes)) into.cells into.order (values_in items) 0 parts (read_out true l (starting hand into.cells)) in
    let all : Back (between r (length r.bytes)) into.cells into.order (values_in items) 0 parts e = subst R many back in
    let ways : Ways = record { old = r; end_of_file = past_end r; end_of_record = behind e.progress.hand; fine = left_at true e.progress } in
    let end : length x.bytes ≡ c.spot.at + length (feed ++ text_of records) = omega (arith, length-append (bytes_before c) (feed ++ text_of records), length-take c.spot.at c.bytes, stands.in_file) in
    let S : Done → Type 0 = λ d. transfer (between d.connection (c.spot.at + length feed)) (reading f true edit' None) into
    ≡ record { connection = d.connection; cells = with_values into.cells into.order (values_of from); count = Some (characters_in parts); condition = Fine } in
    let last : Connection → List Cell → ℕ → Done = λ k l n. record { connection = k; cells = l; count = Some n; condition = Fine } in
    subst S (sym w.is) (
    reads_as r r hand f true edit' None into.cells into.order (fits c.modes f true edit' None fit) refl found
    ∙ ap (input_done ways e.progress.cells (Some e.progress.count)) all.condition
    ∙ ap (λ k. last k e.progress.cells e.progress.count) (all.behind ∙ ap (between r) end)
    ∙ ap (λ l. last x l e.progress.count) (all.cells_are ∙ ap (with_values into.cells into.order) of_kinds.1)
    ∙ ap (last x (with_values into.cells into.order (values_of from))) (omega (arith, all.count_is))
    )
