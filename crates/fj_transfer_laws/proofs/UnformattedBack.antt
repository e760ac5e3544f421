-- Unformatted statements: what a WRITE puts is read again.
use Rattle.std.proofs.Common.{◌≡◌, ◌≢◌, ℕ, zero, suc, ℤ, pos, negsuc, ◌+◌, ◌-◌, ◌<◌, ◌≤◌, ◌==◌, ◌&&◌, ◌||◌, not, Bool, true, false, cond, ltb, List, [], ◌∷◌, length, take, drop, replicate, Option, Some, None, Ok, Err, refl, sym, ap, subst, ◌∙◌, arith, append-nil, is_some, is_none, unwrap_or}
use Rattle.std.specs.Option.{option_or}
use Rattle.std.proofs.lemmas.Bool.{ne_eqb, ltb-false, le-ltb, le-leb}
use Rattle.std.proofs.lemmas.List.{length-append, length-take}
use Rattle.fj_outside.proofs.ByteLaws.{placed as written_by_place}
use Rattle.fj_value.specs.declared.value.Cell.{Cell}
use Rattle.fj_value.specs.declared.condition.Condition.TheVariants.{Fine, Error}
use Rattle.fj_modes.specs.declared.modes.Modes.{Modes}
use Rattle.fj_modes.specs.declared.specifiers.Access.{Access}
use Rattle.fj_modes.specs.declared.specifiers.Access.TheVariants.{Sequential, Direct, Stream}
use Rattle.fj_modes.specs.declared.specifiers.Action.{Action}
use Rattle.fj_modes.specs.declared.specifiers.Action.TheVariants.{ReadWrite}
use Rattle.fj_modes.specs.Words.{same_access}
use Rattle.fj_seqrec.specs.Lines.{last_line_start}
use Rattle.fj_unfrec.specs.Frames.{framed, frame_before}
use Rattle.fj_unfrec.specs.Reading.{frame_start, start_of}
use Rattle.fj_unfrec.proofs.FrameLemmas.{before_found}
use Rattle.fj_byterec.specs.Pieces.{piece, filled_to, bytes_from}
use Rattle.fj_byterec.proofs.Apart.{written_there, other_there}
use Rattle.fj_moved.specs.declared.moved.Moved.{Moved}
use Rattle.fj_moved.specs.Moved.{values_of}
use Rattle.fj_list.specs.ReadAgain.{with_values}
use Rattle.fj_connect.specs.Connection.{Connection, bytes_before, between, at_number, with_records, with_frame, with_direct, with_bytes}
use Rattle.fj_connect.specs.Positions.{ended, record_before, motion_error, moved_unless, moved}
use Rattle.fj_connect.specs.PositionLaws.{Stands}
use Rattle.fj_connect.specs.Spot.{is_writing}
use Rattle.fj_connect.specs.declared.spot.Within.{Within}
use Rattle.fj_connect.specs.declared.spot.Within.TheVariants.{Outside, Reading, Writing}
use Rattle.fj_connect.specs.declared.spot.Positioning.TheVariants.{Backspace}
use Rattle.fj_connect.proofs.TransferProofs.{puts_frames}
use Rattle.fj_transfer.specs.declared.change.EditChange.{EditChange}
use Rattle.fj_transfer.specs.Places.{before_number}
use Rattle.fj_transfer.specs.Transfer.{Done, told_with, in_error, output_done, is_forbidden, unfit, begins_at, placed, body_of, bytes_needed, values_from, piece_read, bytes_read, sequential_read, sequential_written, direct_written, stream_written, unformatted_read, unformatted_written, from_place, if_fit, transfer_by, transfer}
use Rattle.fj_transfer.proofs.TransferProofs.{records_come_back}
use Rattle.fj_transfer.proofs.UnformattedLemmas.{framed_long, body_taken}
use Rattle.fj_transfer_laws.specs.Statements.{unformatted}
use Rattle.fj_transfer_laws.specs.Unformatted.{SequentialRecordsComeBack, DirectRecordsComeBack, StreamBytesComeBack}
use Rattle.fj_transfer_laws.proofs.Performed.{all_false, none_true, passed, fits_in_file, longest, has_begun}
use Rattle.fj_transfer.proofs.TransferProofs.{values_back, widths_back}

-- ---- what fits the connection

record IsUnformatted (modes : Modes) (number place : Option ℤ) : Type 0 where
  formatted : modes.formatted ≡ false
  direct : cond (is_some number) (not (same_access modes.access Direct)) (same_access modes.access Direct) ≡ false
  stream : (is_some place && not (same_access modes.access Stream)) ≡ false

and_false : (b : Bool) → (b && false) ≡ false
and_false true = refl
and_false false = refl

not_formatted : (b : Bool) → cond b true false ≡ false → b ≡ false
not_formatted true e = cc
not_formatted false e = refl

fits_write : (modes : Modes) (number place : Option ℤ) (edit : EditChange) → unfit modes (unformatted false number place edit) ≡ Fine → IsUnformatted modes number place
fits_write modes number place edit e =
    let t = all_false (cond modes.formatted true false) (cond (is_some number) (not (same_access modes.access Direct)) (same_access modes.access Direct)) (is_some place && not (same_access modes.access Stream)) (same_access modes.access Direct && false)
    (is_forbidden modes.action false) e in
    record { formatted = not_formatted modes.formatted t.0; direct = t.1; stream = t.2 }

fits_read : (modes : Modes) (number place : Option ℤ) (edit : EditChange) → IsUnformatted modes number place → modes.action ≡ ReadWrite → unfit modes (unformatted true number place edit) ≡ Fine
fits_read modes number place edit h action =
    none_true (cond modes.formatted true false) (cond (is_some number) (not (same_access modes.access Direct)) (same_access modes.access Direct)) (is_some place && not (same_access modes.access Stream)) (same_access modes.access Direct && false)
    (is_forbidden modes.action true) (ap (λ b. cond b true false) h.formatted) h.direct h.stream (and_false (same_access modes.access Direct)) (ap (λ (a : Action). is_forbidden a true) action)

-- ---- a READ and a WRITE from where they begin

reads_from : (c b : Connection) (number place : Option ℤ) (edit : EditChange) (into : Moved) → IsUnformatted c.modes number place → c.modes.action ≡ ReadWrite → begins_at (unformatted true number place edit) (ended c) ≡ Ok b
    → transfer c (unformatted true number place edit) into ≡ unformatted_read b.modes.access c b into
unfolding transfer_by
reads_from c b number place edit into fit action begins =
    let spec = unformatted true number place edit in
    ap (if_fit (λ n. []) c spec into) (fits_read c.modes number place edit fit action) ∙ ap (from_place (λ n. []) c spec into) begins

-- a WRITE that is fine
record FineWrite (c : Connection) (number place : Option ℤ) (edit : EditChange) (from : Moved) : Type 0 where
  fit : IsUnformatted c.modes number place
  not_behind : c.spot.after_end ≡ false
  b : Connection
  begins : placed c number place ≡ Ok b
  is : transfer c (unformatted false number place edit) from ≡ unformatted_written b.modes.access c b from

fine_write : (c : Connection) (number place : Option ℤ) (edit : EditChange) (from : Moved) → (transfer c (unformatted false number place edit) from).condition ≡ Fine → FineWrite c number place edit from
unfolding transfer_by
fine_write c number place edit from e =
    let spec = unformatted false number place edit in
    let b = has_begun (λ n. []) c spec from e in
    record { fit = fits_write c.modes number place edit b.fit; not_behind = b.not_behind; b = b.b; begins = b.placed_is; is = b.is }

-- a body that is not too long
short_body : (old c new : Connection) (cells : List Cell) (body : List ℕ) → (cond (ltb c.modes.recl (length body)) (in_error old false cells (Error 15)) (output_done old cells new 0)).condition ≡ Fine
    → (length body ≤ c.modes.recl) × (cond (ltb c.modes.recl (length body)) (in_error old false cells (Error 15)) (output_done old cells new 0) ≡ told_with new cells Fine)
short_body old c new cells body e =
    let p = passed (ltb c.modes.recl (length body)) (in_error old false cells (Error 15)) (output_done old cells new 0) 15 refl e in
    (ltb-false c.modes.recl (length body) p.0, p.1 ∙ fits_in_file old new cells (ap (λ (d : Done). d.condition) (sym p.1) ∙ e))

-- ---- sequential

-- the error of a BACKSPACE behind a record
abbrev pub error_of : Access → Bool → Option ℕ → Option ℕ
error_of access formatted before =
    option_or (cond (same_access access Direct || (same_access access Stream && not formatted)) (Some 28) None) (cond (is_none before && true && true) (Some 18) None)

before_frame : (c : Connection) (body : List ℕ) → Stands c → length body ≤ 16777216 → c.modes.formatted ≡ false → record_before (with_frame c body) ≡ Some c.spot.at
before_frame c body stands short form =
    let new = with_frame c body in
    let put = (puts_frames c body stands short).0 in
    let some : (length (bytes_before new) == 0) ≡ false = ne_eqb (length (bytes_before new)) 0 (λ e. absurd (omega (arith, e, ap length put.joined, length-append (bytes_before c) (framed body), framed_long body))) in
    let front : length (bytes_before c) ≡ c.spot.at = omega (arith, length-take c.spot.at c.bytes, stands.in_file) in
    ap (λ b. cond b (Some (last_line_start (bytes_before new))) (frame_start (bytes_before new))) form
    ∙ ap (λ b. cond b (Some 0) (start_of (frame_before (bytes_before new)))) some
    ∙ ap start_of (before_found (bytes_before new) (bytes_before c) body put)
    ∙ ap (λ n. Some n) front

backspace_frame : (c : Connection) (body : List ℕ) → Stands c → length body ≤ 16777216 → c.modes.formatted ≡ false → c.modes.access ≡ Sequential → moved (with_frame c body) Backspace ≡ (between (with_frame c body) c.spot.at, Fine)
backspace_frame c body stands short form access =
    let new = with_frame c body in
    let before = before_frame c body stands short form in
    let fine : motion_error new Backspace ≡ None =
    ap (λ a. error_of a c.modes.formatted (record_before new)) access ∙ ap (λ b. error_of Sequential b (record_before new)) form ∙ ap (error_of Sequential false) before in
    ap (λ o. moved_unless o new Backspace) fine ∙ ap (λ o. (between new (unwrap_or o new.spot.at), Fine)) before

pub sequential_back : SequentialRecordsComeBack
sequential_back c edit edit' from into stands long access action kinds fine =
    let w = fine_write c None None edit from fine in
    let body = body_of from in
    let same : c ≡ w.b = let e = w.begins in cc in
    let is : transfer c (unformatted false None None edit) from ≡ sequential_written c c from.cells body =
    w.is ∙ ap (λ (x : Connection). unformatted_written x.modes.access c x from) (sym same) ∙ ap (λ a. unformatted_written a c c from) access in
    let e : (sequential_written c c from.cells body).condition ≡ Fine = ap (λ (d : Done). d.condition) (sym is) ∙ fine in
    let put = short_body c c (with_frame c body) from.cells body e in
    let short : length body ≤ 16777216 = omega (arith, put.0, longest c.modes.formatted c.modes.recl long.1) in
    let back = records_come_back c from into stands.in_file (omega (arith, short)) kinds e in
    let new = with_frame c body in
    let r = between new c.spot.at in
    let P : Done → Type 0 = λ d. sequential_read (between d.connection c.spot.at) (between d.connection c.spot.at) into ≡ told_with (between d.connection d.connection.spot.at) (with_values into.cells into.order (values_of from)) Fine in
    let read : sequential_read r r into ≡ told_with new (with_values into.cells into.order (values_of from)) Fine = subst P put.1 back in
    let Q : Done → Type 0 = λ d. (moved d.connection Backspace ≡ (between d.connection c.spot.at, Fine))
    × (transfer (between d.connection c.spot.at) (unformatted true None None edit') into ≡ told_with d.connection (with_values into.cells into.order (values_of from)) Fine) in
    subst Q (sym (is ∙ put.1)) (
      backspace_frame c body stands short w.fit.formatted access,
      reads_from r r None None edit' into w.fit action refl ∙ ap (λ a. unformatted_read a r r into) access ∙ read,
    )

-- ---- direct

pub not_writing : (c : Connection) → Stands c → c.modes.access ≡ Direct → (w : Within) → c.spot.within ≡ w → is_writing c.spot.within ≡ false
not_writing c stands access Outside is = ap is_writing is
not_writing c stands access Reading is = ap is_writing is
not_writing c stands access Writing is = absurd ((stands.record_open is).1 access)

pub number_found : (c b : Connection) (n : ℕ) (t : Bool) → (n == 0) ≡ t → cond t (Err (Error 21)) (Ok (before_number c n)) ≡ Ok b → (0 < n) × (before_number c n ≡ b)
number_found c b n true is e = cc
number_found c b zero false is e = cc
number_found c b (suc n) false is e = (omega arith, cc)

pub direct_back : DirectRecordsComeBack
direct_back c number edit edit' from into stands access action kinds fine =
    let w = fine_write c (Some (pos number)) None edit from fine in
    let body = body_of from in
    let at = number_found c w.b number (number == 0) refl w.begins in
    let b = before_number c number in
    let is : transfer c (unformatted false (Some (pos number)) None edit) from ≡ direct_written c b number from.cells body =
    w.is ∙ ap (λ (x : Connection). unformatted_written x.modes.access c x from) (sym at.1) ∙ ap (λ a. unformatted_written a c b from) access in
    let put = short_body c c (with_direct b number body 0) from.cells body (ap (λ (d : Done). d.condition) (sym is) ∙ fine) in
    let new = with_direct b number body 0 in
    let filled = filled_to body c.modes.recl 0 in
    let there : piece new.bytes c.modes.recl number ≡ Some filled = written_there c.bytes body c.modes.recl number 0 at.0 put.0 in
    let enough : bytes_needed into ≤ length filled = omega (arith, widths_back from.cells into.cells from.order into.order kinds, length-append body (replicate (c.modes.recl - length body) 0)) in
    let values : values_from into.cells into.order filled ≡ with_values into.cells into.order (values_of from) = values_back from.cells into.cells from.order into.order (replicate (c.modes.recl - length body) 0) kinds in
    let open' : ended new ≡ new = ap (λ t. cond t (with_records new (10 ∷ [])) new) (not_writing c stands access c.spot.within refl) in
    let begins : begins_at (unformatted true (Some (pos number)) None edit') (ended new) ≡ Ok (before_number new number) =
    ap (begins_at (unformatted true (Some (pos number)) None edit')) open'
    ∙ ap (λ t. cond t (Err (Error 20)) (cond (number == 0) (Err (Error 21)) (Ok (before_number new number)))) w.not_behind
    ∙ ap (λ t. cond t (Err (Error 21)) (Ok (before_number new number))) (ne_eqb number 0 (λ e. absurd (omega (arith, e, at.0)))) in
    let r = before_number new number in
    let Q : Done → Type 0 = λ d. (transfer d.connection (unformatted true (Some (pos number)) None edit') into ≡ told_with d.connection (with_values into.cells into.order (values_of from)) Fine)
    × ((other : ℕ) (found : List ℕ) → 0 < other → other ≢ number → piece c.bytes c.modes.recl other ≡ Some found → piece d.connection.bytes c.modes.recl other ≡ Some found) in
    subst Q (sym (is ∙ put.1)) (
      reads_from new r (Some (pos number)) None edit' into w.fit action begins
          ∙ ap (λ a. unformatted_read a new r into) access
          ∙ ap (piece_read new r number into) there
          ∙ body_taken new (at_number r number) into filled enough
          ∙ ap (λ l. told_with new l Fine) values,
      λ other found some apart here. other_there c.bytes body found c.modes.recl number 0 other at.0 put.0 some apart here,
    )

-- ---- stream

record Starts (c b : Connection) : Type 0 where
  same : b.bytes ≡ c.bytes
  modes : b.modes ≡ c.modes
  inside : b.spot.at ≤ length c.bytes

byte_start : (c b : Connection) (n : ℕ) (t u : Bool) → (n == 0) ≡ t → ltb (length c.bytes + 1) n ≡ u → cond (t || u) (Err (Error 21)) (Ok (between c (n - 1))) ≡ Ok b → Starts c b
byte_start c b n true u is low e = cc
byte_start c b n false true is low e = cc
byte_start c b n false false is low e =
    let place : between c (n - 1) ≡ b = cc in
    subst (Starts c) place (record { same = refl; modes = refl; inside = omega (arith, ltb-false (length c.bytes + 1) n low) })

starts : (c b : Connection) (place : Option ℤ) → c.spot.at ≤ length c.bytes → placed c None place ≡ Ok b → Starts c b
starts c b None inside e = let same : c ≡ b = cc in subst (Starts c) same (record { same = refl; modes = refl; inside = inside })
starts c b (Some (negsuc n)) inside e = cc
starts c b (Some (pos n)) inside e = byte_start c b n (n == 0) (ltb (length c.bytes + 1) n) refl refl e

pub stream_back : StreamBytesComeBack
stream_back c start place edit edit' from into stands access action kinds begins fine =
    let w = fine_write c None place edit from fine in
    let body = body_of from in
    let found : placed c None place ≡ Ok start = sym (ap (λ t. cond t (Err (Error 20)) (placed c None place)) w.not_behind) ∙ begins in
    let s = starts c start place stands.in_file found in
    let b_is : w.b ≡ start = let e = w.begins in cc in
    let is : transfer c (unformatted false None place edit) from ≡ stream_written c start from.cells body =
    w.is ∙ ap (λ (x : Connection). unformatted_written x.modes.access c x from) b_is ∙ ap (λ a. unformatted_written a c start from) (ap (λ (m : Modes). m.access) s.modes ∙ access) in
    let new = with_bytes start body in
    let put : stream_written c start from.cells body ≡ told_with new from.cells Fine = fits_in_file c new from.cells (ap (λ (d : Done). d.condition) (sym is) ∙ fine) in
    let at = start.spot.at in
    let end = at + length body in
    let parts = written_by_place start.bytes at body (omega (arith, s.inside, ap length s.same)) in
    let needed : bytes_needed into ≡ length body = widths_back from.cells into.cells from.order into.order kinds in
    let long : end ≤ length new.bytes = omega (arith, parts.3) in
    let r = between new at in
    let begins' : begins_at (unformatted true None (Some (pos (at + 1))) edit') (ended new) ≡ Ok r =
    ap (λ t. cond (t || ltb (length new.bytes + 1) (at + 1)) (Err (Error 21)) (Ok (between new (at + 1 - 1)))) (ne_eqb (at + 1) 0 (λ e. absurd (omega (arith, e))))
    ∙ ap (λ t. cond t (Err (Error 21)) (Ok (between new (at + 1 - 1)))) (le-ltb (length new.bytes + 1) (at + 1) (omega (arith, long)))
    ∙ ap (λ n. Ok (between new n)) (omega arith) in
    let fit : IsUnformatted new.modes None (Some (pos (at + 1))) = record {
      formatted = ap (λ (m : Modes). m.formatted) s.modes ∙ w.fit.formatted;
      direct = ap (λ (m : Modes). same_access m.access Direct) s.modes ∙ ap (λ a. same_access a Direct) access;
      stream = ap (λ (m : Modes). not (same_access m.access Stream)) s.modes ∙ ap (λ a. not (same_access a Stream)) access;
    } in
    let bytes : bytes_from new.bytes at (bytes_needed into) ≡ Some body =
    ap (bytes_from new.bytes at) needed
    ∙ ap (λ t. cond t (Some (take (length body) (drop at new.bytes))) None) (le-leb end (length new.bytes) long)
    ∙ ap (λ l. Some l) parts.1 in
    let values : values_from into.cells into.order body ≡ with_values into.cells into.order (values_of from) =
    ap (values_from into.cells into.order) (sym (append-nil body)) ∙ values_back from.cells into.cells from.order into.order [] kinds in
    let Q : Done → Type 0 = λ d. (transfer d.connection (unformatted true None (Some (pos (at + 1))) edit') into ≡ told_with d.connection (with_values into.cells into.order (values_of from)) Fine)
    × (take at d.connection.bytes ≡ take at c.bytes) × (drop end d.connection.bytes ≡ drop end c.bytes) × (d.connection.spot.at ≡ end) in
    subst Q (sym (is ∙ put)) (
      reads_from new r None (Some (pos (at + 1))) edit' into fit (ap (λ (m : Modes). m.action) s.modes ∙ action) begins'
          ∙ ap (λ a. unformatted_read a new r into) (ap (λ (m : Modes). m.access) s.modes ∙ access)
          ∙ ap (bytes_read new r at into) bytes
          ∙ ap (λ l. told_with new l Fine) values,
      parts.0 ∙ ap (take at) s.same,
      parts.2 ∙ ap (drop end) s.same,
      refl,
    )
