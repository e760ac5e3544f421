-- What is known of a READ under an explicit format that is fine, and of the record at hand.
use Rattle.std.proofs.Common.{◌≡◌, ◌≢◌, ℕ, ◌+◌, ◌-◌, ◌≤◌, ◌==◌, ◌&&◌, ◌||◌, not, ℤ, pos, negsuc, Bool, true, false, cond, ltb, List, [], ◌∷◌, length, take, drop, Option, Some, None, Result, Ok, Err, refl, sym, ap, subst, ◌∙◌, inl, inr, arith, is_some}
use Rattle.std.proofs.lemmas.Bool.{ltb-false, cases_lt}
use Rattle.std.proofs.lemmas.List.{length-take, length-drop, length-append}
use Rattle.fj_value.specs.declared.edit.EditModes.{EditModes}
use Rattle.fj_value.specs.declared.value.Cell.{Cell}
use Rattle.fj_value.specs.declared.value.Value.{Value}
use Rattle.fj_value.specs.declared.value.Value.TheVariants.{Undefined}
use Rattle.fj_value.specs.declared.condition.Condition.{Condition}
use Rattle.fj_value.specs.declared.condition.Condition.TheVariants.{Fine, EndOfFile, EndOfRecord, Error}
use Rattle.fj_modes.specs.declared.modes.Modes.{Modes}
use Rattle.fj_modes.specs.declared.specifiers.Access.TheVariants.{Direct, Stream}
use Rattle.fj_modes.specs.Words.{same_access}
use Rattle.fj_format.specs.declared.item.FormatItem.{FormatItem}
use Rattle.fj_control.specs.Steps.{Given, steps}
use Rattle.fj_line.specs.Line.{farthest, position_behind}
use Rattle.fj_control.specs.Paired.{Part, item, string, move, slash, lacking, paired}
use Rattle.fj_moved.specs.declared.moved.Moved.{Moved}
use Rattle.fj_moved.specs.Cells.{with_value, kind_at}
use Rattle.fj_seqrec.specs.Lines.{first_line}
use Rattle.fj_seqrec.proofs.Positions.{line_feed_place, place-le-length}
use Rattle.fj_seqrec.proofs.ReadLaws.{first_line_ended, first_line_last, stripped_length}
use Rattle.fj_connect.specs.Connection.{Connection, bytes_before, bytes_behind, rest_of_record, in_record, past_record, past_end, between, begun, with_records}
use Rattle.fj_connect.specs.Positions.{ended}
use Rattle.fj_connect.specs.PositionLaws.{Stands}
use Rattle.fj_connect.specs.Spot.{is_reading, is_writing}
use Rattle.fj_transfer.specs.declared.change.EditChange.{EditChange}
use Rattle.fj_transfer.specs.AtHand.{AtHand, behind, line_at, next_record, rest_at, first_record, record_numbered}
use Rattle.fj_transfer.specs.Change.{changed}
use Rattle.fj_transfer.specs.Input.{Progress, Ended, width_for, characters_for, with_field, field_read, with_record, carried_out, left_at}
use Rattle.fj_transfer.specs.Transfer.{Done, Ways, input_done, unread, explicit_ended, explicit_read, is_forbidden, unfit, begins_at, placed, from_place, if_fit, transfer_by, transfer}
use Rattle.fj_transfer_laws.specs.Statements.{reading, moving}
use Rattle.fj_transfer_laws.proofs.Results.{result_for, outcome, first_never}
use Rattle.fj_transfer_laws.proofs.Performed.{all_false, none_true, has_begun}
use Rattle.fj_transfer_laws.proofs.Alike.{IsRest}

-- ---- what fits the connection

pub record IsFit (modes : Modes) (place : Option ℤ) : Type 0 where
  pub formatted : modes.formatted ≡ true
  pub sequential : same_access modes.access Direct ≡ false
  pub stream : (is_some place && not (same_access modes.access Stream)) ≡ false
  pub allowed : is_forbidden modes.action true ≡ false

pub is_formatted : (b : Bool) → cond b false true ≡ false → b ≡ true
is_formatted true e = refl
is_formatted false e = cc

is_fit : (modes : Modes) (f : List FormatItem) (edit : EditChange) (place : Option ℤ) → unfit modes (reading f false edit place) ≡ Fine → IsFit modes place
is_fit modes f edit place e =
    let direct = same_access modes.access Direct in
    let t = all_false (cond modes.formatted false true) direct (is_some place && not (same_access modes.access Stream)) (direct && true) (is_forbidden modes.action true) e in
    record { formatted = is_formatted modes.formatted t.0; sequential = t.1; stream = t.2; allowed = t.4 }

pub fits : (modes : Modes) (f : List FormatItem) (advance : Bool) (edit : EditChange) (place : Option ℤ) → IsFit modes place → unfit modes (reading f advance edit place) ≡ Fine
fits modes f advance edit place h =
    let direct = same_access modes.access Direct in
    none_true (cond modes.formatted false true) direct (is_some place && not (same_access modes.access Stream)) (direct && (not advance || false)) (is_forbidden modes.action true)
    (ap (λ b. cond b false true) h.formatted) h.sequential h.stream (ap (λ b. b && (not advance || false)) h.sequential) h.allowed

-- ---- the record at hand

pub record SameFile (b c : Connection) : Type 0 where
  pub modes : c.modes ≡ b.modes
  pub name : c.name ≡ b.name
  pub bytes : c.bytes ≡ b.bytes
  pub number : c.spot.next_number ≡ b.spot.next_number

pub record IsHand (b : Connection) (h : AtHand) : Type 0 where
  pub file : SameFile b h.connection
  pub rest : IsRest h
  pub within : begun h.connection + length h.text ≤ b.modes.recl

-- a connection without direct access, with a file of no more bytes than there are positions in a record
pub record IsSerial (b : Connection) : Type 0 where
  pub sequential : same_access b.modes.access Direct ≡ false
  pub short : length b.bytes ≤ farthest

first_short : (bytes : List ℕ) → length (first_line bytes) ≤ length bytes
first_short bytes = elim (cases_lt (line_feed_place bytes) (length bytes)) [
  | inl fed ↦ omega (arith, ap length (first_line_ended bytes fed), (stripped_length (take (line_feed_place bytes) bytes)).0, length-take (line_feed_place bytes) bytes)
  | inr past ↦ let whole : line_feed_place bytes ≡ length bytes = omega (arith, past, place-le-length bytes) in omega (arith, ap length (first_line_last bytes whole))
]

rest_short : (b c : Connection) → IsSerial b → SameFile b c → length (rest_of_record c) ≤ farthest
rest_short b c plain same = omega (arith, first_short (bytes_behind c), length-drop c.spot.at c.bytes, ap length same.bytes, plain.short)

sequential_of : (b c : Connection) → IsSerial b → SameFile b c → same_access c.modes.access Direct ≡ false
sequential_of b c plain same = ap (λ (m : Modes). same_access m.access Direct) same.modes ∙ plain.sequential

line_found : (a b : Bool) (x h : AtHand) → cond a (Err EndOfFile) (cond b (Err (Error 15)) (Ok x)) ≡ Ok h → (b ≡ false) × (x ≡ h)
line_found true b x h e = cc
line_found false true x h e = cc
line_found false false x h e = (refl, cc)

line_hand : (b c : Connection) (h : AtHand) → IsSerial b → SameFile b c → line_at c ≡ Ok h → IsHand b h
line_hand b c h plain same e =
    let hand : AtHand = record { connection = in_record c c.spot.at 0; text = rest_of_record c } in
    let found = line_found (length (bytes_behind c) == 0) (ltb c.modes.recl (length (rest_of_record c))) hand h e in
    let sum : c.spot.at + 0 ≡ c.spot.at = omega arith in
    let none : (c.spot.at + 0) - c.spot.at ≡ 0 = omega arith in
    let low : length (rest_of_record c) ≤ c.modes.recl = ltb-false c.modes.recl (length (rest_of_record c)) found.0 in
    let limit : c.modes.recl ≡ b.modes.recl = ap (λ (m : Modes). m.recl) same.modes in
    subst (IsHand b) found.1 (record {
      file = record { modes = same.modes; name = same.name; bytes = same.bytes; number = same.number };
      rest = record {
        sequential = sequential_of b c plain same;
        line = ap (λ n. first_line (drop n c.bytes)) (sym sum);
        start = omega arith;
        short = rest_short b c plain same;
      };
      within = omega (arith, none, low, limit);
    })

not_direct : (c : Connection) (x y : Result AtHand Condition) → same_access c.modes.access Direct ≡ false → cond (same_access c.modes.access Direct) x y ≡ y
not_direct c x y e = ap (λ t. cond t x y) e

-- the next record
next_hand : (b : Connection) (p h : AtHand) → IsSerial b → IsHand b p → next_record (behind p) ≡ Ok h → IsHand b h
next_hand b p h plain is e =
    let c = p.connection in
    let past : behind p ≡ past_record c = ap (λ t. cond t c (past_record c)) (sequential_of b c plain is.file) in
    let same : SameFile b (past_record c) = record { modes = is.file.modes; name = is.file.name; bytes = is.file.bytes; number = is.file.number } in
    line_hand b (past_record c) h plain same
    (sym (not_direct (past_record c) (record_numbered (past_record c) (past_record c).spot.next_number) (line_at (past_record c)) (sequential_of b (past_record c) plain same)) ∙ sym (ap next_record past) ∙ e)

rest_found : (b : Bool) (x h : AtHand) → cond b (Err (Error 15)) (Ok x) ≡ Ok h → (b ≡ false) × (x ≡ h)
rest_found true x h e = cc
rest_found false x h e = (refl, cc)

same_file : (b : Connection) → SameFile b b
same_file b = record { modes = refl; name = refl; bytes = refl; number = refl }

-- the record that a statement begins in
pub first_hand : (b : Connection) (h : AtHand) → IsSerial b → b.spot.start ≤ b.spot.at → first_record b ≡ Ok h → IsHand b h
first_hand b h plain start e = by (is_reading b.spot.within) refl
  where
    by : (t : Bool) → is_reading b.spot.within ≡ t → IsHand b h
    by true is =
        let here : rest_at b ≡ Ok h = sym (ap (λ t. cond t (rest_at b) (line_at b)) is) ∙ sym (not_direct b (record_numbered b b.spot.next_number) (cond (is_reading b.spot.within) (rest_at b) (line_at b)) plain.sequential) ∙ e in
        let found = rest_found (ltb b.modes.recl (begun b + length (rest_of_record b))) (record { connection = b; text = rest_of_record b }) h here in
        subst (IsHand b) found.1 (record {
          file = same_file b;
          rest = record { sequential = plain.sequential; line = refl; start = start; short = rest_short b b plain (same_file b) };
          within = ltb-false b.modes.recl (begun b + length (rest_of_record b)) found.0;
        })
    by false is =
        line_hand b b h plain (same_file b)
        (sym (ap (λ t. cond t (rest_at b) (line_at b)) is) ∙ sym (not_direct b (record_numbered b b.spot.next_number) (cond (is_reading b.spot.within) (rest_at b) (line_at b)) plain.sequential) ∙ e)

-- ---- it stays one of the same file

module _ (b : Connection) (plain : IsSerial b) where
  Keeps : (Progress → Ended) → Type 0
  Keeps next = (q : Progress) → IsHand b q.hand → IsHand b (next q).progress.hand

  outcome_kept : (there advance pad : Bool) (p read left : Progress) (next : Progress → Ended) → IsHand b p.hand → IsHand b read.hand → IsHand b left.hand → Keeps next → IsHand b (outcome there advance pad p read left next).progress.hand
  unfolding Keeps
  outcome_kept true advance pad p read left next h r l k = k read r
  outcome_kept false true true p read left next h r l k = k read r
  outcome_kept false true false p read left next h r l k = h
  outcome_kept false false true p read left next h r l k = r
  outcome_kept false false false p read left next h r l k = l

  field_kept : (advance pad : Bool) (width : ℕ) (chars : List ℕ) (cell : ℕ) (r : Result Value Condition) (p : Progress) (next : Progress → Ended) → IsHand b p.hand → Keeps next → IsHand b (field_read advance pad width chars cell r p next).progress.hand
  field_kept advance pad width chars cell (Err condition) p next h k = h
  field_kept advance pad width chars cell (Ok value) p next h k =
      outcome_kept (length chars == width) advance pad p (with_field width (length chars) cell value p) (record p { cells = with_value p.cells cell Undefined }) next h h h k

  record_kept : (r : Result AtHand Condition) (p : Progress) (next : Progress → Ended) → next_record (behind p.hand) ≡ r → IsHand b p.hand → Keeps next → IsHand b (with_record r p next).progress.hand
  unfolding Keeps
  record_kept (Err condition) p next is h k = h
  record_kept (Ok hand) p next is h k = k (record p { hand = hand; at = 0 }) (next_hand b p.hand hand plain h is)

  pub hand_kept : (advance : Bool) (parts : List (Part ℕ)) (p : Progress) → IsHand b p.hand → IsHand b (carried_out advance parts p).progress.hand
  unfolding Keeps
  hand_kept advance [] p h = h
  hand_kept advance (item modes e cell ∷ more) p h =
      let kind = kind_at p.cells cell in
      let width = width_for e kind in
      let chars = characters_for width p in
      field_kept advance modes.pad width chars cell (result_for e modes kind width chars) p (carried_out advance more) h (λ q. hand_kept advance more q)
  hand_kept advance (string s ∷ more) p h = h
  hand_kept advance (move m ∷ more) p h = hand_kept advance more (record p { at = position_behind m p.at }) h
  hand_kept advance (slash ∷ more) p h = record_kept (next_record (behind p.hand)) p (carried_out advance more) refl h (λ q. hand_kept advance more q)
  hand_kept advance (lacking ∷ more) p h = h

-- ---- where a READ begins

pub record StandsAt (c b : Connection) : Type 0 where
  pub modes : b.modes ≡ c.modes
  pub start : b.spot.start ≤ b.spot.at
  pub short : length b.bytes ≤ farthest

ended_begun : (c : Connection) (w : Bool) → is_writing c.spot.within ≡ w → Stands c → StandsAt c (cond w (with_records c (10 ∷ [])) c)
ended_begun c true is stands = record {
  modes = refl;
  start = omega arith;
  short = omega (arith, stands.short, length-append (bytes_before c) (10 ∷ []), length-take c.spot.at c.bytes);
}
ended_begun c false is stands = record { modes = refl; start = stands.from_start; short = omega (arith, stands.short) }

byte_begun : (c x b : Connection) (t : Bool) (place : ℕ) → StandsAt c x → cond t (Err (Error 21)) (Ok (between x place)) ≡ Ok b → StandsAt c b
byte_begun c x b true place h e = cc
byte_begun c x b false place h e =
    let same : between x place ≡ b = cc in
    subst (StandsAt c) same (record { modes = h.modes; start = omega arith; short = h.short })

placed_begun : (c x b : Connection) (place : Option ℤ) → StandsAt c x → placed x None place ≡ Ok b → StandsAt c b
placed_begun c x b None h e = let same : x ≡ b = cc in subst (StandsAt c) same h
placed_begun c x b (Some (negsuc n)) h e = cc
placed_begun c x b (Some (pos n)) h e = byte_begun c x b ((n == 0) || ltb (length x.bytes + 1) n) (n - 1) h e

not_behind : (t : Bool) (r : Result Connection Condition) (b : Connection) → cond t (Err (Error 20)) r ≡ Ok b → r ≡ Ok b
not_behind true r b e = cc
not_behind false r b e = e

pub stands_at : (c b : Connection) (f : List FormatItem) (edit : EditChange) (place : Option ℤ) → Stands c → begins_at (reading f false edit place) (ended c) ≡ Ok b → StandsAt c b
stands_at c b f edit place stands e = placed_begun c (ended c) b place (ended_begun c (is_writing c.spot.within) refl stands) (not_behind (ended c).spot.after_end (placed (ended c) None place) b e)

-- ---- a READ, step by step

abbrev pub starting : AtHand → List Cell → Progress
starting hand cells = record { hand = hand; at = 0; cells = cells; count = 0 }

pub reads_as : (c b : Connection) (hand : AtHand) (f : List FormatItem) (advance : Bool) (edit : EditChange) (place : Option ℤ) (cells : List Cell) (order : List ℕ)
    → unfit c.modes (reading f advance edit place) ≡ Fine → begins_at (reading f advance edit place) (ended c) ≡ Ok b → first_record b ≡ Ok hand
    → transfer c (reading f advance edit place) (moving cells order)
    ≡ explicit_ended c b advance (carried_out advance (paired (changed edit b.modes.edit) (steps f (length order)) order) (starting hand cells))
unfolding transfer_by
reads_as c b hand f advance edit place cells order fit begins found =
    let spec = reading f advance edit place in
    let moved = moving cells order in
    ap (if_fit (steps f) c spec moved) fit
    ∙ ap (from_place (steps f) c spec moved) begins
    ∙ ap (explicit_read c b advance (changed edit b.modes.edit) (steps f) moved) found

input_condition : (ways : Ways) (cells : List Cell) (count : Option ℕ) (condition : Condition) → (input_done ways cells count condition).condition ≡ condition
input_condition ways cells count Fine = refl
input_condition ways cells count EndOfRecord = refl
input_condition ways cells count EndOfFile = refl
input_condition ways cells count (Error n) = refl

ended_fine : (old b : Connection) (e : Ended) → (explicit_ended old b false e).condition ≡ Fine → e.condition ≡ Fine
ended_fine old b e fine =
    let ways : Ways = record { old = old; end_of_file = past_end b; end_of_record = behind e.progress.hand; fine = left_at false e.progress } in
    sym (input_condition ways e.progress.cells (Some e.progress.count) e.condition) ∙ fine

hand_found : (c b : Connection) (advance : Bool) (modes : EditModes) (control : ℕ → List Given) (moved : Moved) (r : Result AtHand Condition) → r ≢ Err Fine → (explicit_read c b advance modes control moved r).condition ≡ Fine → (h : AtHand) × (r ≡ Ok h)
hand_found c b advance modes control moved (Err condition) never e = absurd (never (ap (λ (k : Condition). Err k) (sym (input_condition (unread c b) moved.cells None condition) ∙ e)))
hand_found c b advance modes control moved (Ok h) never e = (h, refl)

-- a nonadvancing READ that is fine
pub record FineRead (c : Connection) (f : List FormatItem) (edit : EditChange) (place : Option ℤ) (cells : List Cell) (order : List ℕ) : Type 0 where
  pub b : Connection
  pub hand : AtHand
  pub fit : IsFit c.modes place
  pub begins : begins_at (reading f false edit place) (ended c) ≡ Ok b
  pub found : first_record b ≡ Ok hand
  pub fine : (carried_out false (paired (changed edit b.modes.edit) (steps f (length order)) order) (starting hand cells)).condition ≡ Fine

pub fine_read : (c : Connection) (f : List FormatItem) (edit : EditChange) (place : Option ℤ) (cells : List Cell) (order : List ℕ) → (transfer c (reading f false edit place) (moving cells order)).condition ≡ Fine → FineRead c f edit place cells order
unfolding transfer_by
fine_read c f edit place cells order e =
    let spec = reading f false edit place in
    let moved = moving cells order in
    let p = has_begun (steps f) c spec moved e in
    let b = p.b in
    let read : (explicit_read c b false (changed edit b.modes.edit) (steps f) moved (first_record b)).condition ≡ Fine = ap (λ (d : Done). d.condition) (sym p.is) ∙ e in
    let hand = hand_found c b false (changed edit b.modes.edit) (steps f) moved (first_record b) (first_never b) read in
    let whole = reads_as c b hand.0 f false edit place cells order p.fit p.begins hand.1 in
    let all = carried_out false (paired (changed edit b.modes.edit) (steps f (length order)) order) (starting hand.0 cells) in
    record {
      b = b;
      hand = hand.0;
      fit = is_fit c.modes f edit place p.fit;
      begins = p.begins;
      found = hand.1;
      fine = ended_fine c b all (ap (λ (d : Done). d.condition) (sym whole) ∙ e);
    }
