-- Direct records that a WRITE puts under a format.
use Rattle.std.proofs.Common.{◌≡◌, ◌≢◌, ◌⊎◌, ℕ, zero, suc, ◌+◌, ◌-◌, ◌<◌, ◌≤◌, ◌==◌, ◌&&◌, not, true, false, cond, List, [], ◌∷◌, ◌++◌, length, map, replicate, slice_get, Some, Result, Ok, Err, refl, sym, ap, subst, ◌∙◌, inl, inr, arith}
use Rattle.std.proofs.lemmas.Bool.{ne_eqb}
use Rattle.fj_value.specs.declared.value.Cell.{Cell}
use Rattle.fj_value.specs.declared.condition.Condition.{Condition}
use Rattle.fj_value.specs.declared.condition.Condition.TheVariants.{Fine, Error}
use Rattle.fj_modes.specs.declared.specifiers.Access.TheVariants.{Direct}
use Rattle.fj_modes.specs.declared.specifiers.Action.{Action as Allowed}
use Rattle.fj_modes.specs.Words.{same_access}
use Rattle.fj_format.specs.declared.item.FormatItem.{FormatItem}
use Rattle.fj_format.specs.Unfolding.{pass}
use Rattle.fj_control.specs.Steps.{control, round, rounds, steps}
use Rattle.fj_control.specs.Paired.{Part, paired}
use Rattle.fj_line.specs.Line.{farthest, empty_line}
use Rattle.fj_line.specs.Actions.{Action, end_record, AtHand as LineAtHand, first_record as line_begun, carried_out}
use Rattle.fj_line.specs.Records.{texts_of, MeetNone}
use Rattle.fj_byterec.specs.Pieces.{piece, filled_to, with_record}
use Rattle.fj_byterec.proofs.Apart.{written_there, other_there}
use Rattle.fj_moved.specs.declared.moved.Moved.{Moved}
use Rattle.fj_moved.specs.Items.{items_of, values_in}
use Rattle.fj_moved.specs.Moved.{values_of}
use Rattle.fj_list.specs.ReadAgain.{with_values}
use Rattle.fj_connect.specs.Connection.{Connection, begun, missing_feed, past_record, at_number, with_direct, with_records, past_end}
use Rattle.fj_connect.specs.Positions.{ended}
use Rattle.fj_connect.specs.Spot.{is_reading}
use Rattle.fj_transfer.specs.declared.change.EditChange.{EditChange}
use Rattle.fj_transfer.specs.AtHand.{AtHand, behind, line_at, rest_at, next_record, numbered, record_numbered, first_record}
use Rattle.fj_transfer.specs.Change.{changed}
use Rattle.fj_transfer.specs.Explicit.{action_of}
use Rattle.fj_transfer.specs.Input.{carried_out as read_out, left_at}
use Rattle.fj_transfer.specs.Places.{before_number}
use Rattle.fj_transfer.specs.Printing.{printed_of, if_fine}
use Rattle.fj_transfer.specs.Transfer.{Done, Ways, told_with, input_done, is_forbidden, unfit, begins_at, with_pieces, pieces_written, lines_written, from_place, if_fit, explicit_read, transfer_by, transfer}
use Rattle.fj_transfer.specs.Writing.{AreShort}
use Rattle.fj_transfer_laws.specs.Statements.{reading_number, writing_number}
use Rattle.fj_transfer_laws.specs.RoundTrip.{characters_in, written_parts, written_records}
use Rattle.fj_transfer_laws.specs.Numbered.{NumberedRecordsStandApart, NumberedRecordsComeBack}
use Rattle.fj_transfer_laws.proofs.Performed.{all_false, none_true, fits_in_file, longest, has_begun}
use Rattle.fj_transfer_laws.proofs.Begun.{is_formatted, starting}
use Rattle.fj_transfer_laws.proofs.Printed.{acts_never, is_printed, items_there}
use Rattle.fj_transfer_laws.proofs.RecordsBack.{AreThere, Back, some_texts, read_back}
use Rattle.fj_transfer_laws.proofs.UnformattedBack.{not_writing, number_found}

-- ---- records that are put one behind another

module _ (recl : ℕ) where
  others_kept : (records : List (List ℕ)) (b : Connection) (other : ℕ) (found : List ℕ) → b.modes.recl ≡ recl → 0 < b.spot.next_number → AreShort recl records → 0 < other
      → (other < b.spot.next_number) ⊎ (b.spot.next_number + length records ≤ other) → piece b.bytes recl other ≡ Some found → piece (with_pieces records b).bytes recl other ≡ Some found
  others_kept [] b other found is some short there apart here = here
  others_kept (t ∷ records) b other found is some short there apart here =
      let n = b.spot.next_number in
      let next = with_direct b n t 32 in
      let P : ℕ → Type 0 = λ r. piece (with_record b.bytes r n t 32) recl other ≡ Some found in
      let kept : piece next.bytes recl other ≡ Some found = subst P (sym is) (other_there b.bytes t found recl n 32 other some short.0 there (not_it apart) here) in
      others_kept records next other found is (omega arith) short.1 there (further apart) kept
    where
      not_it : (other < b.spot.next_number) ⊎ (b.spot.next_number + length (t ∷ records) ≤ other) → other ≢ b.spot.next_number
      not_it (inl low) e = absurd (omega (arith, low, e))
      not_it (inr high) e = absurd (omega (arith, high, e))

      further : (other < b.spot.next_number) ⊎ (b.spot.next_number + length (t ∷ records) ≤ other) → (other < b.spot.next_number + 1) ⊎ (b.spot.next_number + 1 + length records ≤ other)
      further (inl low) = inl (omega (arith, low))
      further (inr high) = inr (omega (arith, high))

  -- each is there
  abbrev ArePut : List ℕ → ℕ → List (List ℕ) → Type 0
  ArePut bytes n [] = Unit {0}
  ArePut bytes n (t ∷ records) = (piece bytes recl n ≡ Some (filled_to t recl 32)) × ArePut bytes (n + 1) records

  all_put : (records : List (List ℕ)) (b : Connection) → b.modes.recl ≡ recl → 0 < b.spot.next_number → AreShort recl records → ArePut (with_pieces records b).bytes b.spot.next_number records
  all_put [] b is some short = tt
  all_put (t ∷ records) b is some short =
      let n = b.spot.next_number in
      let next = with_direct b n t 32 in
      let P : ℕ → Type 0 = λ r. piece (with_record b.bytes r n t 32) recl n ≡ Some (filled_to t recl 32) in
      let here : piece next.bytes recl n ≡ Some (filled_to t recl 32) = subst P (sym is) (written_there b.bytes t recl n 32 some short.0) in
      (others_kept records next n (filled_to t recl 32) is (omega arith) short.1 some (inl (omega arith)) here, all_put records next is (omega arith) short.1)

  one_put : (bytes : List ℕ) (n k : ℕ) (records : List (List ℕ)) (text : List ℕ) → ArePut bytes n records → slice_get records k ≡ Some text → piece bytes recl (n + k) ≡ Some (filled_to text recl 32)
  one_put bytes n k [] text put is = cc
  one_put bytes n zero (t ∷ records) text put is =
      let same : t ≡ text = cc in
      let none : n + 0 ≡ n = omega arith in
      ap (λ m. piece bytes recl m) none ∙ put.0 ∙ ap (λ l. Some (filled_to l recl 32)) same
  one_put bytes n (suc k) (t ∷ records) text put is =
      let sum : n + suc k ≡ n + 1 + k = omega arith in
      ap (λ m. piece bytes recl m) sum ∙ one_put bytes (n + 1) k records text put.1 is

pieces_rest : (records : List (List ℕ)) (b : Connection) → with_pieces records b ≡ record b { bytes = (with_pieces records b).bytes; spot = record b.spot { next_number = b.spot.next_number + length records } }
pieces_rest [] b = let none : b.spot.next_number + 0 ≡ b.spot.next_number = omega arith in ap (λ n. record b { spot = record b.spot { next_number = n } }) (sym none)
pieces_rest (t ∷ records) b =
    let next = with_direct b b.spot.next_number t 32 in
    let sum : b.spot.next_number + 1 + length records ≡ b.spot.next_number + length (t ∷ records) = omega arith in
    pieces_rest records next ∙ ap (λ n. record b { bytes = (with_pieces records next).bytes; spot = record b.spot { next_number = n } }) sum

-- ---- a WRITE that is fine

record FineWrite (c : Connection) (f : List FormatItem) (number : ℕ) (edit : EditChange) (from : Moved) : Type 0 where
  formatted : c.modes.formatted ≡ true
  not_behind : c.spot.after_end ≡ false
  some : 0 < number
  none : MeetNone (map action_of (written_parts c edit f from))
  short : AreShort c.modes.recl (written_records c edit f from)
  is : transfer c (writing_number f number edit) from ≡ told_with (with_pieces (written_records c edit f from) (before_number c number)) from.cells Fine

printed_fine : (c b : Connection) (cells : List Cell) (acts : List Action) (r : Result LineAtHand Condition) → carried_out (line_begun c.modes.recl (begun b)) (acts ++ end_record ∷ []) ≡ r → r ≢ Err Fine
    → (pieces_written c b cells (if_fine (acts ++ end_record ∷ []) r)).condition ≡ Fine
    → MeetNone acts × AreShort c.modes.recl (texts_of acts) × (pieces_written c b cells (if_fine (acts ++ end_record ∷ []) r) ≡ told_with (with_pieces (texts_of acts) b) cells Fine)
printed_fine c b cells acts (Err condition) is never e = absurd (never (ap (λ (k : Condition). Err k) e))
printed_fine c b cells acts (Ok last) is never e =
    let p = printed_of (texts_of (acts ++ end_record ∷ [])) in
    let known = is_printed c.modes.recl (line_begun c.modes.recl (begun b)) last acts refl refl is in
    (known.none, known.short, fits_in_file c (with_pieces p.records b) cells e ∙ ap (λ l. told_with (with_pieces l b) cells Fine) known.records)

fine_write : (c : Connection) (f : List FormatItem) (number : ℕ) (edit : EditChange) (from : Moved) → c.modes.access ≡ Direct → (transfer c (writing_number f number edit) from).condition ≡ Fine → FineWrite c f number edit from
unfolding transfer_by
fine_write c f number edit from access e =
    let spec = writing_number f number edit in
    let h = has_begun (steps f) c spec from e in
    let direct = same_access c.modes.access Direct in
    let t = all_false (cond c.modes.formatted false true) (not direct) false (direct && false) (is_forbidden c.modes.action false) h.fit in
    let at = number_found c h.b number (number == 0) refl h.placed_is in
    let b = before_number c number in
    let acts = map action_of (written_parts c edit f from) in
    let r = carried_out (line_begun c.modes.recl (begun b)) (acts ++ end_record ∷ []) in
    let pieces = pieces_written c b from.cells (if_fine (acts ++ end_record ∷ []) r) in
    let lines = lines_written c b (missing_feed b) true from.cells (if_fine (acts ++ end_record ∷ []) r) in
    let is : transfer c spec from ≡ pieces =
    h.is ∙ ap (λ (x : Connection). from_place (steps f) c spec from (Ok x)) (sym at.1) ∙ ap (λ a. cond (same_access a Direct) pieces lines) access in
    let p = printed_fine c b from.cells acts r refl (acts_never (written_parts c edit f from) (line_begun c.modes.recl (begun b))) (ap (λ (d : Done). d.condition) (sym is) ∙ e) in
    record { formatted = is_formatted c.modes.formatted t.0; not_behind = h.not_behind; some = at.0; none = p.0; short = p.1; is = is ∙ p.2 }

pub stand_apart : NumberedRecordsStandApart
stand_apart c f number edit from access fine =
    let w = fine_write c f number edit from access fine in
    let records = written_records c edit f from in
    let b = before_number c number in
    let P : Done → Type 0 = λ d. ((k : ℕ) (text : List ℕ) → slice_get records k ≡ Some text → piece d.connection.bytes c.modes.recl (number + k) ≡ Some (filled_to text c.modes.recl 32))
    × ((other : ℕ) (found : List ℕ) → 0 < other → (other < number) ⊎ (number + length records ≤ other) → piece c.bytes c.modes.recl other ≡ Some found → piece d.connection.bytes c.modes.recl other ≡ Some found) in
    subst P (sym w.is) (
      λ k text is. one_put c.modes.recl (with_pieces records b).bytes number k records text (all_put c.modes.recl records b refl w.some w.short) is,
      λ other found some apart here. others_kept c.modes.recl records b other found refl w.some w.short some apart here,
    )

-- ---- a READ of them

-- the record at hand and those behind it, where the last one has this number
record IsThere (new : Connection) (last : ℕ) (h : AtHand) (t : List ℕ) (more : List (List ℕ)) : Type 0 where
  number : ℕ
  connection : h.connection ≡ at_number new number
  text : h.text ≡ filled_to t new.modes.recl 32
  put : ArePut new.modes.recl new.bytes (number + 1) more
  short : AreShort new.modes.recl (t ∷ more)
  many : number + length more ≡ last

module _ (new : Connection) (last : ℕ) (direct : new.modes.access ≡ Direct) (low : new.modes.recl ≤ farthest) where
  behind_is : (h : AtHand) (number : ℕ) → h.connection ≡ at_number new number → behind h ≡ at_number new number
  behind_is h number is =
      let P : Connection → Type 0 = λ x. behind (record { connection = x; text = h.text }) ≡ at_number new number in
      subst P (sym is) (ap (λ a. cond (same_access a Direct) (at_number new number) (past_record (at_number new number))) direct)

  next_there : (h : AtHand) (t u : List ℕ) (more : List (List ℕ)) → IsThere new last h t (u ∷ more) → (n : AtHand) × ((next_record (behind h) ≡ Ok n) × IsThere new last n u more)
  next_there h t u more there =
      let here = at_number new there.number in
      let n = there.number + 1 in
      let hand : AtHand = record { connection = at_number new n; text = filled_to u new.modes.recl 32 } in (
        hand,
        (
          ap next_record (behind_is h there.number there.connection)
              ∙ ap (λ a. cond (same_access a Direct) (record_numbered here n) (line_at here)) direct
              ∙ ap (numbered here n) there.put.0,
          record { number = n; connection = refl; text = refl; put = there.put.1; short = there.short.1; many = omega (arith, there.many) },
        ),
      )

  known : AreThere (IsThere new last) (at_number new last)
  known = record {
    text = λ h t more there. (replicate (new.modes.recl - length t) 32, there.text);
    short = λ h t more there. omega (arith, low, there.short.0);
    next = next_there;
    end = λ h t there. behind_is h there.number there.connection ∙ ap (at_number new) (omega (arith, there.many));
  }

pub read_again : NumberedRecordsComeBack
unfolding transfer_by
read_again c f number edit edit' from into stands long access action kinds can fine =
    let w = fine_write c f number edit from access fine in
    let parts = written_parts c edit f from in
    let acts = map action_of parts in
    let records = texts_of acts in
    let b = before_number c number in
    let new = with_pieces records b in
    let bytes = new.bytes in
    let some = some_texts acts empty_line in
    let t = some.0 in
    let ts = some.1.0 in
    let plain : Connection = record b { bytes = bytes; spot = record b.spot { next_number = number + length records } } in
    let new_is : new ≡ plain = pieces_rest records b in
    let recl = c.modes.recl in
    let last = number + length ts in
    let P : List (List ℕ) → Type 0 = λ l. AreShort recl l in
    let short : AreShort recl (t ∷ ts) = subst P some.1.1 w.short in
    let Q : List (List ℕ) → Type 0 = λ l. ArePut recl bytes number l in
    let put : ArePut recl bytes number (t ∷ ts) = subst Q some.1.1 (all_put recl records b refl w.some w.short) in
    let spec = reading_number f number edit' in
    let open' : ended plain ≡ plain = ap (λ x. cond x (with_records plain (10 ∷ [])) plain) (not_writing c stands access c.spot.within refl) in
    let r = before_number plain number in
    let begins : begins_at spec (ended plain) ≡ Ok r =
    ap (begins_at spec) open'
    ∙ ap (λ x. cond x (Err (Error 20)) (cond (number == 0) (Err (Error 21)) (Ok r))) w.not_behind
    ∙ ap (λ x. cond x (Err (Error 21)) (Ok r)) (ne_eqb number 0 (λ e. absurd (omega (arith, e, w.some)))) in
    let fit : unfit plain.modes spec ≡ Fine =
    none_true (cond c.modes.formatted false true) (not (same_access c.modes.access Direct)) false (same_access c.modes.access Direct && false) (is_forbidden c.modes.action true)
    (ap (λ x. cond x false true) w.formatted) (ap (λ a. not (same_access a Direct)) access) refl (ap (λ a. same_access a Direct && false) access) (ap (λ (a : Allowed). is_forbidden a true) action) in
    let hand : AtHand = record { connection = at_number r number; text = filled_to t recl 32 } in
    let found : first_record r ≡ Ok hand =
    ap (λ a. cond (same_access a Direct) (record_numbered r number) (cond (is_reading r.spot.within) (rest_at r) (line_at r))) access
    ∙ ap (numbered r number) put.0 in
    let items = items_of from in
    let of_kinds = items_there from.cells into.cells from.order into.order kinds in
    let modes = changed edit c.modes.edit in
    let modes' = changed edit' c.modes.edit in
    let s = pass f ++ rounds (length items) (round f) in
    let low : recl ≤ farthest = omega (arith, longest c.modes.formatted recl long.1) in
    let back = read_back (IsThere r last) (at_number r last) (known r last access low) s modes modes' items into.order empty_line (starting hand into.cells) t ts (record {
      of_kinds = of_kinds.0;
      can = can;
      none = w.none;
      texts = some.1.1;
      behind = omega arith;
      at = refl;
      near = omega arith;
      there = record { number = number; connection = refl; text = refl; put = put.1; short = short; many = refl };
    }) in
    let e = read_out true (paired modes' (steps f (length into.order)) into.order) (starting hand into.cells) in
    let many : paired modes' (control s (length into.order)) into.order ≡ paired modes' (steps f (length into.order)) into.order =
    ap (λ n. paired modes' (control (pass f ++ rounds n (round f)) (length into.order)) into.order) of_kinds.2 in
    let R : List (Part ℕ) → Type 0 = λ l. Back (at_number r last) into.cells into.order (values_in items) 0 parts (read_out true l (starting hand into.cells)) in
    let all : Back (at_number r last) into.cells into.order (values_in items) 0 parts e = subst R many back in
    let ways : Ways = record { old = plain; end_of_file = past_end r; end_of_record = behind e.progress.hand; fine = left_at true e.progress } in
    let end : last + 1 ≡ number + length records = omega (arith, ap length some.1.1) in
    let done : Connection → List Cell → ℕ → Done = λ k l n. record { connection = k; cells = l; count = Some n; condition = Fine } in
    let read : transfer plain spec into ≡ done plain (with_values into.cells into.order (values_of from)) (characters_in parts) =
    ap (if_fit (steps f) plain spec into) fit
    ∙ ap (from_place (steps f) plain spec into) begins
    ∙ ap (explicit_read plain r true modes' (steps f) into) found
    ∙ ap (input_done ways e.progress.cells (Some e.progress.count)) all.condition
    ∙ ap (λ k. done k e.progress.cells e.progress.count) (all.behind ∙ ap (λ n. record b { bytes = bytes; spot = record b.spot { next_number = n } }) end)
    ∙ ap (λ l. done plain l e.progress.count) (all.cells_are ∙ ap (with_values into.cells into.order) of_kinds.1)
    ∙ ap (done plain (with_values into.cells into.order (values_of from))) (omega (arith, all.count_is)) in
    let S : Done → Type 0 = λ d. transfer d.connection spec into ≡ done d.connection (with_values into.cells into.order (values_of from)) (characters_in parts) in
    let T : Connection → Type 0 = λ x. transfer x spec into ≡ done x (with_values into.cells into.order (values_of from)) (characters_in parts) in
    subst S (sym w.is) (subst T (sym new_is) read)
