-- Where motions go.
use Rattle.std.proofs.Common.{◌≡◌, ◌≢◌, ◌+◌, ◌-◌, ◌<◌, ◌≤◌, ℕ, List, [], ◌∷◌, ◌++◌, length, take, drop, arith, refl, sym, ap, subst, ◌∙◌, inl, inr, Option, Some, None, unwrap_or, Bool, true, false, if◌then◌else◌, ◌↔◌, MatchOption}
use Rattle.std.proofs.lemmas.Bool.{cases_lt, eq-eqb}
use Rattle.std.proofs.lemmas.List.{length-take, length-append, take_at, take-take}
use Rattle.fj_modes.specs.declared.specifiers.Access.{Access}
use Rattle.fj_modes.specs.declared.specifiers.Access.TheVariants.{Sequential, Direct, Stream}
use Rattle.fj_value.specs.declared.condition.Condition.TheVariants.{Fine}
use Rattle.fj_seqrec.specs.Lines.{lines, first_line, last_line_start}
use Rattle.fj_seqrec.proofs.LastLine.{is_start, lines_last}
use Rattle.fj_unfrec.specs.Frames.{framed, frame_before}
use Rattle.fj_unfrec.specs.Reading.{frame_start, start_of}
use Rattle.fj_unfrec.proofs.FrameLemmas.{before_is, parts_before}
use Rattle.fj_modes.specs.Words.{same_access}
use Rattle.fj_connect.specs.Spot.{is_reading}
use Rattle.fj_connect.specs.Connection.{Connection, bytes_before, between, with_records}
use Rattle.fj_connect.specs.Positions.{ended, backspaced, place_back, cut_off, positioned, moved_unless, motion_error}
use Rattle.fj_connect.specs.PositionLaws.{Stands, IsOneRecordBack, IsBack, IsAtEnd, MovesByRecords, StandsAfterMotions}
use Rattle.fj_connect.specs.declared.spot.Positioning.{Positioning}
use Rattle.fj_connect.specs.declared.spot.Positioning.TheVariants.{Backspace, Rewind, Endfile}
use Rattle.fj_connect.specs.declared.spot.Within.{Within}
use Rattle.fj_connect.specs.declared.spot.Within.TheVariants.{Outside, Reading, Writing}
use Rattle.fj_connect.proofs.ErrorProofs.{met_none, some_start}

fine_is_positioned : (error : Option ℕ) (c : Connection) (how : Positioning) → error ≡ None → moved_unless error c how ≡ (positioned (ended c) how, Fine)
fine_is_positioned error c how is = rw is refl

-- a connection without an open record
ended_same : (c : Connection) (within : Within) → c.spot.within ≡ within → within ≢ Writing → ended c ≡ c
ended_same c Outside is other = rw is refl
ended_same c Reading is other = rw is refl
ended_same c Writing is other = absurd (other refl)

ended_open : (c : Connection) → c.spot.within ≡ Writing → ended c ≡ with_records c (10 ∷ [])
ended_open c is = rw is refl

take_before : (bytes : List ℕ) (place at : ℕ) → place ≤ at → take place (take at bytes) ≡ take place bytes
take_before bytes place at low = take-take place at bytes low

-- the bytes before the position, for a record that ends there
formatted_back : (c : Connection) → c.spot.at ≤ length c.bytes → 0 < c.spot.at → c.spot.after_end ≡ false → c.spot.within ≡ Outside → c.modes.formatted ≡ true → IsOneRecordBack c (backspaced c)
formatted_back c in_file some e w f =
    let long : length (bytes_before c) ≡ c.spot.at = omega (arith, length-take c.spot.at c.bytes) in
    let start = is_start (bytes_before c) (omega (arith, long, some)) in
    let place : place_back c ≡ last_line_start (bytes_before c) = rw (e, w, f) refl in
    let low : last_line_start (bytes_before c) < c.spot.at = omega (arith, long, start.within) in
    record {
      bytes = refl;
      before = rw place low;
      line = λ _. (
        first_line (drop (last_line_start (bytes_before c)) (bytes_before c)),
        lines_last (bytes_before c) (last_line_start (bytes_before c)) start
            ∙ ap (λ b. lines b ++ first_line (drop (last_line_start (bytes_before c)) (bytes_before c)) ∷ []) (take_before c.bytes (last_line_start (bytes_before c)) c.spot.at (omega (arith, low)) ∙ ap (λ n. take n c.bytes) (sym place)),
      );
      frame = λ other. let no : ◌≡◌ {A = Bool} true false = sym f ∙ other in cc;
    }

some_is_none : (n : ℕ) → ◌≡◌ {A = Option ℕ} (Some n) None → ⊥
some_is_none n e = subst (λ o. MatchOption o ⊥ (λ _. Unit {0})) e tt

-- where no frame ends the bytes, BACKSPACE is in error
errs_without : (c : Connection) (access : Access) → c.modes.access ≡ access → c.spot.after_end ≡ false → c.spot.within ≡ Outside → c.modes.formatted ≡ false
    → frame_start (bytes_before c) ≡ None → motion_error c Backspace ≡ None → ⊥
errs_without c Direct a e w f s none = some_is_none 28 (rw a at none)
errs_without c Stream a e w f s none = some_is_none 28 (rw (a, f) at none)
errs_without c Sequential a e w f s none = some_is_none 18 (rw (a, f, s, e, w) at none)

frame_back : (c : Connection) (found : Option (List ℕ × List ℕ)) → c.spot.at ≤ length c.bytes → 0 < c.spot.at → c.spot.after_end ≡ false → c.spot.within ≡ Outside → c.modes.formatted ≡ false
    → frame_before (bytes_before c) ≡ found → motion_error c Backspace ≡ None → IsOneRecordBack c (backspaced c)
frame_back c None in_file some e w f is none =
    let long : length (bytes_before c) ≡ c.spot.at = omega (arith, length-take c.spot.at c.bytes) in
    absurd (errs_without c c.modes.access refl e w f (some_start (bytes_before c) (omega (arith, long, some)) ∙ ap start_of is) none)
frame_back c (Some (front, body)) in_file some e w f is none =
    let long : length (bytes_before c) ≡ c.spot.at = omega (arith, length-take c.spot.at c.bytes) in
    let ends = before_is (bytes_before c) front body is in
    let parts = parts_before (bytes_before c) front body ends.joined in
    let start : frame_start (bytes_before c) ≡ Some (length front) = some_start (bytes_before c) (omega (arith, long, some)) ∙ ap start_of is in
    let place : place_back c ≡ length front = rw (e, w, f, start) refl in
    let low : length front < c.spot.at = omega (arith, long, parts.long) in
    let before : take (place_back c) c.bytes ≡ front =
    ap (λ n. take n c.bytes) place ∙ sym (take_before c.bytes (length front) c.spot.at (omega (arith, low)))
    ∙ ap (take (length front)) ends.joined ∙ take_at front (framed body) (length front) refl in
    record {
      bytes = refl;
      before = rw place low;
      line = λ other. let no : ◌≡◌ {A = Bool} true false = sym other ∙ f in cc;
      frame = λ _. (body, rw before ends);
    }

one_back : (c : Connection) (formatted : Bool) → c.spot.at ≤ length c.bytes → 0 < c.spot.at → c.spot.after_end ≡ false → c.spot.within ≡ Outside → c.modes.formatted ≡ formatted
    → motion_error c Backspace ≡ None → IsOneRecordBack c (backspaced c)
one_back c true in_file some e w f none = formatted_back c in_file some e w f
one_back c false in_file some e w f none = frame_back c (frame_before (bytes_before c)) in_file some e w f refl none

outside_is_writing : Outside ≡ Writing → ⊥
outside_is_writing e = cc

reading_is_writing : Reading ≡ Writing → ⊥
reading_is_writing e = cc

reading_is_outside : Reading ≡ Outside → ⊥
reading_is_outside e = cc

-- between records it is not behind the endfile record, unless it says so
not_ended : (c : Connection) (ended : Bool) → Stands c → c.spot.within ≢ Outside → c.spot.after_end ≡ ended → c.spot.after_end ≡ false
not_ended c false stands other is = is
not_ended c true stands other is = absurd (other (stands.at_end is).2)

open_bytes : (c : Connection) → Stands c → c.spot.within ≡ Writing → length (with_records c (10 ∷ [])).bytes ≡ c.spot.at + 1
open_bytes c stands w = length-append (bytes_before c) (10 ∷ []) ∙ omega (arith, length-take c.spot.at c.bytes, stands.in_file)

back_at_first : (c : Connection) (formatted ended : Bool) → c.spot.at ≡ 0 → c.spot.within ≡ Outside → c.modes.formatted ≡ formatted → c.spot.after_end ≡ ended → place_back c ≡ 0
back_at_first c formatted true at w f e = rw (e, at) refl
back_at_first c true false at w f e = rw (e, w, f, at) refl
back_at_first c false false at w f e = rw (e, w, f, at) refl

is_back : (c : Connection) → Stands c → motion_error c Backspace ≡ None → IsBack c (backspaced (ended c))
is_back c stands none = record {
  between = (refl, refl, refl);
  before_end = λ e. let w = (stands.at_end e).2 in rw (ended_same c Outside w outside_is_writing) (refl, rw e refl);
  to_start = λ w.
      let e = not_ended c c.spot.after_end stands (λ o. reading_is_outside (sym w ∙ o)) refl in
      rw (ended_same c Reading w reading_is_writing) (refl, rw (e, w) refl);
  at_first = λ at w. rw (ended_same c Outside w outside_is_writing) (refl, back_at_first c c.modes.formatted c.spot.after_end at w refl refl);
  over_record = λ e w some. rw (ended_same c Outside w outside_is_writing) (one_back c c.modes.formatted stands.in_file some e w refl none);
  over_open_record = λ w.
      rw (ended_open c w) (formatted_back (with_records c (10 ∷ [])) (omega (arith, open_bytes c stands w)) (omega arith) refl refl (stands.record_open w).0);
}

is_end : (c : Connection) (access : Access) → c.modes.access ≡ access → ((cut_off c).spot.after_end ≡ true ↔ (c.modes.access ≡ Sequential))
is_end c Sequential a = (λ _. a, λ _. rw a refl)
is_end c Direct a = (λ e. let no : ◌≡◌ {A = Bool} false true = rw a at e in cc, λ s. let no : Direct ≡ Sequential = sym a ∙ s in cc)
is_end c Stream a = (λ e. let no : ◌≡◌ {A = Bool} false true = rw a at e in cc, λ s. let no : Stream ≡ Sequential = sym a ∙ s in cc)

-- an open record that is ended keeps the modes
ended_modes : (c : Connection) (within : Within) → c.spot.within ≡ within → ((ended c).modes ≡ c.modes) × ((ended c).name ≡ c.name)
ended_modes c Outside w = rw w (refl, refl)
ended_modes c Reading w = rw w (refl, refl)
ended_modes c Writing w = rw w (refl, refl)

is_at_end : (c : Connection) → IsAtEnd c (cut_off (ended c))
is_at_end c =
    let modes = (ended_modes c c.spot.within refl).0 in
    record {
      bytes = refl;
      at = refl;
      between = refl;
      behind = subst (λ m. (cut_off (ended c)).spot.after_end ≡ true ↔ (m.access ≡ Sequential)) modes (is_end (ended c) (ended c).modes.access refl);
    }

pub moves_by_records : MovesByRecords
moves_by_records c stands = (
  λ fine. let none = met_none (motion_error c Backspace) c Backspace fine in rw (fine_is_positioned (motion_error c Backspace) c Backspace none) (is_back c stands none),
  λ fine. let none = met_none (motion_error c Rewind) c Rewind fine in rw (fine_is_positioned (motion_error c Rewind) c Rewind none) record { bytes = refl; at = refl; between = (refl, refl) },
  λ fine. let none = met_none (motion_error c Endfile) c Endfile fine in rw (fine_is_positioned (motion_error c Endfile) c Endfile none) (is_at_end c),
)

-- a connection between records, at a place in its file
stands_between : (c : Connection) (place : ℕ) → Stands c → place ≤ length c.bytes → Stands (between c place)
stands_between c place stands low = record {
  short = stands.short;
  in_file = low;
  from_start = omega arith;
  between_records = λ _. refl;
  record_open = λ w. absurd (outside_is_writing w);
  at_end = λ e. let no : ◌≡◌ {A = Bool} false true = e in cc;
  number = stands.number;
}

stands_ended : (c : Connection) (within : Within) → c.spot.within ≡ within → Stands c → Stands (ended c)
stands_ended c Outside w stands = rw (ended_same c Outside w outside_is_writing) stands
stands_ended c Reading w stands = rw (ended_same c Reading w reading_is_writing) stands
stands_ended c Writing w stands =
    let open_record = stands.record_open w in
    let long = open_bytes c stands w in
    rw (ended_open c w) record {
      short = omega (arith, long, open_record.2, open_record.3);
      in_file = omega (arith, long);
      from_start = omega arith;
      between_records = λ _. refl;
      record_open = λ o. absurd (outside_is_writing o);
      at_end = λ e. let no : ◌≡◌ {A = Bool} false true = e in cc;
      number = stands.number;
    }

frame_low : (c : Connection) (found : Option (List ℕ × List ℕ)) → c.spot.at ≤ length c.bytes → frame_before (bytes_before c) ≡ found → unwrap_or (frame_start (bytes_before c)) c.spot.at ≤ c.spot.at
frame_low c None in_file is = elim (cases_lt 0 (length (bytes_before c))) [
  | inl some ↦ rw (some_start (bytes_before c) some, is) (omega arith)
  | inr none ↦ rw (ap (λ b. if b then Some 0 else start_of (frame_before (bytes_before c))) (eq-eqb (length (bytes_before c)) 0 (omega arith))) (omega arith)
]
frame_low c (Some (front, body)) in_file is =
    let parts = parts_before (bytes_before c) front body (before_is (bytes_before c) front body is).joined in
    let some : 0 < length (bytes_before c) = omega (arith, parts.long) in
    rw (some_start (bytes_before c) some, is) (omega (arith, parts.long, length-take c.spot.at c.bytes))

place_low : (c : Connection) (formatted ended reading : Bool) → Stands c → c.modes.formatted ≡ formatted → c.spot.after_end ≡ ended → is_reading c.spot.within ≡ reading → place_back c ≤ c.spot.at
place_low c formatted true reading stands f e r = rw e (omega arith)
place_low c formatted false true stands f e r = rw (e, r) stands.from_start
place_low c true false false stands f e r = rw (e, r, f) (omega (arith, length-take (length (bytes_before c) - 1) (bytes_before c), length-take c.spot.at c.bytes))
place_low c false false false stands f e r = rw (e, r, f) (frame_low c (frame_before (bytes_before c)) stands.in_file refl)

sequential : (access : Access) → same_access access Sequential ≡ true → access ≡ Sequential
sequential Sequential is = refl
sequential Direct is = cc
sequential Stream is = cc

stands_cut : (c : Connection) → Stands c → Stands (cut_off c)
stands_cut c stands = record {
  short = omega (arith, length-take c.spot.at c.bytes, stands.short);
  in_file = omega arith;
  from_start = omega arith;
  between_records = λ _. refl;
  record_open = λ w. absurd (outside_is_writing w);
  at_end = λ e. (sequential c.modes.access e, refl, refl);
  number = stands.number;
}

stands_positioned : (c : Connection) (how : Positioning) → Stands c → Stands (positioned c how)
stands_positioned c Backspace stands =
    stands_between c (place_back c) stands (omega (arith, place_low c c.modes.formatted c.spot.after_end (is_reading c.spot.within) stands refl refl refl, stands.in_file))
stands_positioned c Rewind stands = stands_between c 0 stands (omega arith)
stands_positioned c Endfile stands = stands_cut c stands

same_names : (c : Connection) (how : Positioning) → ((positioned c how).modes ≡ c.modes) × ((positioned c how).name ≡ c.name)
same_names c Backspace = (refl, refl)
same_names c Rewind = (refl, refl)
same_names c Endfile = (refl, refl)

stands_unless : (error : Option ℕ) (c : Connection) (how : Positioning) → Stands c
    → Stands (moved_unless error c how).0 × ((moved_unless error c how).0.modes ≡ c.modes) × ((moved_unless error c how).0.name ≡ c.name)
stands_unless (Some n) c how stands = (stands, refl, refl)
stands_unless None c how stands =
    let same = same_names (ended c) how in
    let modes = ended_modes c c.spot.within refl in
    (stands_positioned (ended c) how (stands_ended c c.spot.within refl stands), same.0 ∙ modes.0, same.1 ∙ modes.1)

pub stands_after : StandsAfterMotions
stands_after c how stands = stands_unless (motion_error c how) c how stands
