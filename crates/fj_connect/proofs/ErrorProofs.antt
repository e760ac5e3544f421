-- The errors of motions.
use Rattle.std.proofs.Common.{◌≡◌, ◌≢◌, ◌<◌, ℕ, List, length, arith, refl, sym, ap, subst, ◌∙◌, Option, Some, None, unwrap_or, Bool, true, false, if◌then◌else◌, inl, inr, MatchOption}
use Rattle.std.proofs.lemmas.Bool.{cases_lt, ne_eqb, eq-eqb}
use Rattle.fj_value.specs.declared.condition.Condition.TheVariants.{Fine, Error}
use Rattle.fj_modes.specs.declared.specifiers.Access.{Access}
use Rattle.fj_modes.specs.declared.specifiers.Access.TheVariants.{Sequential, Direct, Stream}
use Rattle.fj_modes.specs.declared.specifiers.Action.{Action}
use Rattle.fj_modes.specs.declared.specifiers.Action.TheVariants.{Read, Write, ReadWrite}
use Rattle.fj_modes.specs.Words.{same_access, same_action}
use Rattle.fj_unfrec.specs.Frames.{EndsWithFrame, frame_before}
use Rattle.fj_unfrec.specs.Reading.{frame_start, start_of}
use Rattle.fj_unfrec.proofs.FrameLemmas.{before_found, before_none}
use Rattle.fj_connect.specs.Spot.{is_reading}
use Rattle.fj_connect.specs.Connection.{Connection, bytes_before}
use Rattle.fj_connect.specs.Positions.{moved, moved_unless, motion_error}
use Rattle.fj_connect.specs.PositionLaws.{Errs, direct_has_no_motion, stream_has_no_record, file_is_only_read, file_has_ended, frame_is_broken, ErrsExactly}
use Rattle.fj_connect.specs.declared.spot.Positioning.{Positioning}
use Rattle.fj_connect.specs.declared.spot.Positioning.TheVariants.{Backspace, Rewind, Endfile}
use Rattle.fj_connect.specs.declared.spot.Within.{Within}
use Rattle.fj_connect.specs.declared.spot.Within.TheVariants.{Outside, Reading, Writing}

not_direct : (access : Access) → access ≢ Direct → same_access access Direct ≡ false
not_direct Sequential other = refl
not_direct Direct other = absurd (other refl)
not_direct Stream other = refl

not_read : (action : Action) → action ≢ Read → same_action action Read ≡ false
not_read Read other = absurd (other refl)
not_read Write other = refl
not_read ReadWrite other = refl

not_reading : (within : Within) → within ≢ Reading → is_reading within ≡ false
not_reading Outside other = refl
not_reading Reading other = absurd (other refl)
not_reading Writing other = refl

-- of bytes, the frame that they end with
pub some_start : (bytes : List ℕ) → 0 < length bytes → frame_start bytes ≡ start_of (frame_before bytes)
some_start bytes some = ap (λ b. if b then Some 0 else start_of (frame_before bytes)) (ne_eqb (length bytes) 0 (λ e. absurd (omega (arith, some, e))))

no_frame : (bytes : List ℕ) → 0 < length bytes → ((front body : List ℕ) → EndsWithFrame bytes front body → ⊥) → frame_start bytes ≡ None
no_frame bytes some none = some_start bytes some ∙ ap start_of (before_none bytes none)

none_is_some : (n : ℕ) → ◌≡◌ {A = Option ℕ} None (Some n) → ⊥
none_is_some n e = subst (λ o. MatchOption o (Unit {0}) (λ _. ⊥)) e tt

no_start : (bytes : List ℕ) → frame_start bytes ≡ None → (0 < length bytes) × ((front body : List ℕ) → EndsWithFrame bytes front body → ⊥)
no_start bytes is = elim (cases_lt 0 (length bytes)) [
  | inl some ↦ (some, λ front body found. none_is_some (length front) (sym is ∙ some_start bytes some ∙ ap start_of (before_found bytes front body found)))
  | inr none ↦ absurd (none_is_some 0 (sym is ∙ ap (λ b. if b then Some 0 else start_of (frame_before bytes)) (eq-eqb (length bytes) 0 (omega arith))))
]

is_error : (c : Connection) (how : Positioning) (n : ℕ) → Errs c how n → moved c how ≡ (c, Error n)
is_error c _ _ (direct_has_no_motion access) = rw access refl
is_error c _ _ (stream_has_no_record access formatted) = rw (access, formatted) refl
is_error c _ _ (file_is_only_read access action) = rw (not_direct c.modes.access access, action) refl
is_error c _ _ (file_has_ended access action ended) = rw (not_direct c.modes.access access, not_read c.modes.action action, ended) refl
is_error c _ _ (frame_is_broken access formatted ended within some none) =
    rw (access, formatted, ended, not_reading c.spot.within within, no_frame (bytes_before c) some none) refl

same_some : (a b : ℕ) → ◌≡◌ {A = Option ℕ} (Some a) (Some b) → a ≡ b
same_some a b e = ap (λ o. unwrap_or o a) e

rewind_errs : (c : Connection) (n : ℕ) (access : Access) → c.modes.access ≡ access → motion_error c Rewind ≡ Some n → Errs c Rewind n
rewind_errs c n Sequential a is = let none : ◌≡◌ {A = Option ℕ} None (Some n) = rw a at is in cc
rewind_errs c n Direct a is = subst (Errs c Rewind) (same_some 28 n (rw a at is)) (direct_has_no_motion a)
rewind_errs c n Stream a is = let none : ◌≡◌ {A = Option ℕ} None (Some n) = rw a at is in cc

endfile_errs : (c : Connection) (n : ℕ) (access : Access) (action : Action) (ended : Bool) → c.modes.access ≡ access → c.modes.action ≡ action → c.spot.after_end ≡ ended → motion_error c Endfile ≡ Some n → Errs c Endfile n
endfile_errs c n Direct action ended a b e is = subst (Errs c Endfile) (same_some 28 n (rw a at is)) (direct_has_no_motion a)
endfile_errs c n Sequential Read ended a b e is = subst (Errs c Endfile) (same_some 10 n (rw (a, b) at is)) (file_is_only_read (λ d. cc) b)
endfile_errs c n Stream Read ended a b e is = subst (Errs c Endfile) (same_some 10 n (rw (a, b) at is)) (file_is_only_read (λ d. cc) b)
endfile_errs c n Sequential Write true a b e is = subst (Errs c Endfile) (same_some 20 n (rw (a, b, e) at is)) (file_has_ended (λ d. cc) (λ d. cc) e)
endfile_errs c n Sequential ReadWrite true a b e is = subst (Errs c Endfile) (same_some 20 n (rw (a, b, e) at is)) (file_has_ended (λ d. cc) (λ d. cc) e)
endfile_errs c n Stream Write true a b e is = subst (Errs c Endfile) (same_some 20 n (rw (a, b, e) at is)) (file_has_ended (λ d. cc) (λ d. cc) e)
endfile_errs c n Stream ReadWrite true a b e is = subst (Errs c Endfile) (same_some 20 n (rw (a, b, e) at is)) (file_has_ended (λ d. cc) (λ d. cc) e)
endfile_errs c n Sequential Write false a b e is = let none : ◌≡◌ {A = Option ℕ} None (Some n) = rw (a, b, e) at is in cc
endfile_errs c n Sequential ReadWrite false a b e is = let none : ◌≡◌ {A = Option ℕ} None (Some n) = rw (a, b, e) at is in cc
endfile_errs c n Stream Write false a b e is = let none : ◌≡◌ {A = Option ℕ} None (Some n) = rw (a, b, e) at is in cc
endfile_errs c n Stream ReadWrite false a b e is = let none : ◌≡◌ {A = Option ℕ} None (Some n) = rw (a, b, e) at is in cc

frame_errs : (c : Connection) (n : ℕ) (start : Option ℕ) (ended : Bool) (within : Within) → c.modes.access ≡ Sequential → c.modes.formatted ≡ false
    → frame_start (bytes_before c) ≡ start → c.spot.after_end ≡ ended → c.spot.within ≡ within → motion_error c Backspace ≡ Some n → Errs c Backspace n
frame_errs c n (Some place) ended within a f s e w is = let none : ◌≡◌ {A = Option ℕ} None (Some n) = rw (a, f, s) at is in cc
frame_errs c n None true within a f s e w is = let none : ◌≡◌ {A = Option ℕ} None (Some n) = rw (a, f, s, e) at is in cc
frame_errs c n None false Reading a f s e w is = let none : ◌≡◌ {A = Option ℕ} None (Some n) = rw (a, f, s, e, w) at is in cc
frame_errs c n None false Outside a f s e w is =
    subst (Errs c Backspace) (same_some 18 n (rw (a, f, s, e, w) at is)) (frame_is_broken a f e (λ d. cc) (no_start (bytes_before c) s).0 (no_start (bytes_before c) s).1)
frame_errs c n None false Writing a f s e w is =
    subst (Errs c Backspace) (same_some 18 n (rw (a, f, s, e, w) at is)) (frame_is_broken a f e (λ d. cc) (no_start (bytes_before c) s).0 (no_start (bytes_before c) s).1)

backspace_errs : (c : Connection) (n : ℕ) (access : Access) (formatted : Bool) → c.modes.access ≡ access → c.modes.formatted ≡ formatted → motion_error c Backspace ≡ Some n → Errs c Backspace n
backspace_errs c n Direct formatted a f is = subst (Errs c Backspace) (same_some 28 n (rw a at is)) (direct_has_no_motion a)
backspace_errs c n Stream false a f is = subst (Errs c Backspace) (same_some 28 n (rw (a, f) at is)) (stream_has_no_record a f)
backspace_errs c n Stream true a f is = let none : ◌≡◌ {A = Option ℕ} None (Some n) = rw (a, f) at is in cc
backspace_errs c n Sequential true a f is = let none : ◌≡◌ {A = Option ℕ} None (Some n) = rw (a, f) at is in cc
backspace_errs c n Sequential false a f is = frame_errs c n (frame_start (bytes_before c)) c.spot.after_end c.spot.within a f refl refl refl is

errs_of : (c : Connection) (how : Positioning) (n : ℕ) → motion_error c how ≡ Some n → Errs c how n
errs_of c Backspace n is = backspace_errs c n c.modes.access c.modes.formatted refl refl is
errs_of c Rewind n is = rewind_errs c n c.modes.access refl is
errs_of c Endfile n is = endfile_errs c n c.modes.access c.modes.action c.spot.after_end refl refl refl is

fine_unless : (error : Option ℕ) (c : Connection) (how : Positioning) → ((n : ℕ) → error ≡ Some n → ⊥) → (moved_unless error c how).1 ≡ Fine
fine_unless None c how none = refl
fine_unless (Some n) c how none = absurd (none n refl)

-- where a motion is fine, it met no error
pub met_none : (error : Option ℕ) (c : Connection) (how : Positioning) → (moved_unless error c how).1 ≡ Fine → error ≡ None
met_none None c how is = refl
met_none (Some n) c how is = cc

pub errs_exactly : ErrsExactly
errs_exactly c how = (is_error c how, λ none. fine_unless (motion_error c how) c how (λ n is. none n (errs_of c how n is)))
