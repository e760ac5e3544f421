-- What the motions, OPEN of the connected file and CLOSE do to a connection.
use Rattle.std.proofs.Common.{◌≡◌, ◌≢◌, ℕ, Bool, true, false, not, List, [], ◌∷◌, Option, Some, None, unwrap_or, Result, Ok, Err, refl, sym, ap, ◌∙◌, subst, ◌&&◌}
use Rattle.std.specs.Prelude.{if◌then◌else◌, option_and_then}
use Rattle.std.specs.Bool.{Decides}
use Rattle.std.specs.Str.{bytes_eq}
use Rattle.fj_value.specs.declared.condition.Condition.{Condition}
use Rattle.fj_value.specs.declared.condition.Condition.TheVariants.{Fine, Error}
use Rattle.fj_value.specs.declared.place.Place.{Place}
use Rattle.fj_modes.specs.Modes.{IsConflict, IsChangeBy, is_conflict, edit_asked, settled}
use Rattle.fj_modes.specs.Modes as mode
use Rattle.fj_modes.specs.Words.{given_and, is_scratch}
use Rattle.fj_modes.specs.declared.modes.Modes.{Modes}
use Rattle.fj_modes.specs.declared.motion.Motion.{Motion}
use Rattle.fj_modes.specs.declared.motion.Motion.TheVariants as motion
use Rattle.fj_modes.specs.declared.specifiers.OpenSpec.{OpenSpec}
use Rattle.fj_modes.specs.declared.specifiers.FileStatus.{FileStatus}
use Rattle.fj_modes.specs.declared.specifiers.FileStatus.TheVariants.{Old, New, Scratch, Replace, Unknown}
use Rattle.fj_modes.proofs.Refusals.{is_conflict-decides}
use Rattle.fj_modes.proofs.Reopening.{changed_takes_or_keeps}
use Rattle.fj_connect.specs.Connection.{Connection}
use Rattle.fj_connect.specs.Positions.{ended, moved}
use Rattle.fj_connect.specs.PositionLaws.{Stands, Errs}
use Rattle.fj_connect.specs.declared.spot.Positioning.{Positioning}
use Rattle.fj_connect.specs.declared.spot.Positioning.TheVariants as positioning
use Rattle.fj_connect.proofs.ErrorProofs.{errs_exactly}
use Rattle.fj_connect.proofs.MotionProofs.{moves_by_records}
use Rattle.fj_bay.proofs.Keeping.{moved_kept}
use Rattle.fj_control.specs.Steps.{Given}
use Rattle.fj_statement.specs.Units.{number_of}
use Rattle.fj_statement.specs.declared.deck.Variable.{Variable}
use Rattle.fj_statement.specs.declared.unit.UnitRef.{UnitRef}
use Rattle.fj_statement.specs.declared.statement.Statement.TheVariants as statement
use Rattle.fj_meaning.specs.State.{State, Files, Unit, found, with_unit, without_unit, with_connection, left, keeps, disconnected, with_file, without_file}
use Rattle.fj_meaning.specs.Connecting.{keeps_name, keeps_file, with_modes, opens_with, opens, opens_unit, closes, closes_anyway, with_move, moves}
use Rattle.fj_meaning.specs.Statement.{own, instead, unit_at, if_numbered}
use Rattle.fj_meaning.proofs.Lists.{no}
use Rattle.fj_meaning.proofs.Units.{bytes_are, bytes_differ}
use Rattle.fj_meaning_laws.specs.ConnectionLaws.{IsWith, Positions, backspaces, rewinds, ends_file, IsMoved, Moves, MotionsMoveUnits, Reopens, names_no_file, names_its_file, IsReopened, OpenLeavesPosition, Deletes, is_told, is_told_to, is_scratch as of_scratch, is_no_scratch, IsClosed, CloseLeavesFile, DeletesAnyway, scratch_goes, told_to_delete, told_to_keep, told_nothing, CloseClosesAnyway}

-- the unit of a number
at_number : (s : State) (ref : UnitRef) (n : ℕ) (o : Option Unit) → number_of ref ≡ Some n → found s.units n ≡ o → unit_at s (number_of ref) ≡ o
at_number s ref n o is at = ap (unit_at s) is ∙ at

-- ---- the motions

moves_by : (s : State) (how : Motion) (to : Positioning) (u : Unit) → Positions how to → moves s how (Some u) ≡ with_move s u (moved u.connection to)
moves_by s _ _ u backspaces = refl
moves_by s _ _ u rewinds = refl
moves_by s _ _ u ends_file = refl

is_moved : (to : Positioning) (c : Connection) → Stands c → (moved c to).1 ≡ Fine → IsMoved to c (moved c to).0
is_moved positioning.Backspace c stands fine = (moves_by_records c stands).0 fine
is_moved positioning.Rewind c stands fine = (moves_by_records c stands).1 fine
is_moved positioning.Endfile c stands fine = (moves_by_records c stands).2 fine

pub motions_move : MotionsMoveUnits
motions_move control variables s how ref status n is = (
  λ at. ap (moves s how) (at_number s ref n None is at),
  λ u at flush. ap (moves s how) (at_number s ref n (Some u) is at) ∙ ap (λ h. moves s h (Some u)) flush,
  λ u to k at by error.
      let done : moves s how (unit_at s (number_of ref)) ≡ (with_connection s u u.connection, Error k)
      = ap (moves s how) (at_number s ref n (Some u) is at) ∙ moves_by s how to u by ∙ ap (with_move s u) ((errs_exactly u.connection to).0 k error) in
      (ap (λ (x : State × Condition). x.0) done, ap (λ (x : State × Condition). x.1) done),
  λ u to at by none.
      let done : moves s how (unit_at s (number_of ref)) ≡ with_move s u (moved u.connection to)
      = ap (moves s how) (at_number s ref n (Some u) is at) ∙ moves_by s how to u by in
      let fine : (moved u.connection to).1 ≡ Fine = (errs_exactly u.connection to).1 none in (
        record {
          connection = (moved u.connection to).0;
          others = ap (λ (x : State × Condition). x.0) done;
          moved = λ stands. is_moved to u.connection stands fine;
          kept = ((moved_kept u.connection to).named, (moved_kept u.connection to).modes);
        },
        ap (λ (x : State × Condition). x.1) done ∙ fine,
      ),
)

-- ---- OPEN

no_scratch : (o : Option FileStatus) → o ≢ Some Scratch → not (given_and is_scratch o) ≡ true
no_scratch None other = refl
no_scratch (Some Old) other = refl
no_scratch (Some New) other = refl
no_scratch (Some Scratch) other = absurd (other refl)
no_scratch (Some Replace) other = refl
no_scratch (Some Unknown) other = refl

keeps_so : (u : Unit) (spec : OpenSpec) → Reopens u spec → keeps_file u spec spec.file ≡ true
keeps_so u spec (names_no_file none other) = ap (keeps_name u.connection.name spec) none ∙ no_scratch spec.status other
keeps_so u spec (names_its_file same) = ap (keeps_name u.connection.name spec) same ∙ bytes_are u.connection.name u.connection.name refl

pub open_leaves : OpenLeavesPosition
open_leaves control variables s ref spec status n u is at reopens = (
  λ conflict. opened ∙ ap (with_modes s u) (ap (λ b. if b then Err (Error 8) else Ok asked) ((is_conflict-decides u.connection.modes spec).1 conflict)),
  λ none.
      let fine : mode.changed u.connection.modes spec ≡ Ok asked = ap (λ b. if b then Err (Error 8) else Ok asked) (not_so (is_conflict u.connection.modes spec) (λ h. none ((is_conflict-decides u.connection.modes spec).0 h))) in
      let done : own control variables s (statement.OpenUnit ref spec status) ≡ (with_connection s u (record u.connection { modes = asked }), Fine) = opened ∙ ap (with_modes s u) fine in (
        record u.connection { modes = asked },
        record { name = refl; bytes = refl; spot = refl; modes = changed_takes_or_keeps u.connection.modes spec asked fine },
        ap (λ (x : State × Condition). x.0) done,
        ap (λ (x : State × Condition). x.1) done,
      ),
)
  where
    asked : Modes
    asked = record u.connection.modes { edit = edit_asked u.connection.modes.edit spec }

    not_so : (b : Bool) → (b ≡ true → ⊥) → b ≡ false
    not_so true never = absurd (never refl)
    not_so false never = refl

    opened : own control variables s (statement.OpenUnit ref spec status) ≡ with_modes s u (mode.changed u.connection.modes spec)
    opened =
        ap (λ o. if_numbered s o (λ m. opens_unit s ref m spec (found s.units m))) is
        ∙ ap (opens_unit s ref n spec) at
        ∙ ap (λ b. if b then with_modes s u (mode.changed u.connection.modes spec) else opens_with s n spec (Some u) (settled spec)) (keeps_so u spec reopens)

-- ---- CLOSE

refuses_keep : (s : State) (u : Unit) (keep : Option Bool) → u.connection.modes.scratch ≡ true → keep ≡ Some true → closes s keep (Some u) ≡ (s, Error 4)
refuses_keep s u keep scratch told =
    ap (λ k. closes s k (Some u)) told ∙ ap (λ b. if b then (s, Error 4) else (disconnected s u true, Fine)) scratch

module _ (s : State) (u : Unit) where
  left_as : (files : Files) (keep : Bool) → left u.connection keep s.files ≡ files → IsClosed s u (not keep) (record s { units = without_unit u.number s.units; files = files })
  left_as files true is = record {
    others = refl;
    file = λ e. sym (ap (λ (f : Files). f u.connection.name) is) ∙ ap (λ b. if b then Some (ended u.connection).bytes else s.files u.connection.name) (bytes_are u.connection.name u.connection.name refl);
    gone = λ e. no e;
    files = λ name other. sym (ap (λ (f : Files). f name) is) ∙ ap (λ b. if b then Some (ended u.connection).bytes else s.files name) (bytes_differ name u.connection.name other);
  }
  left_as files false is = record {
    others = refl;
    file = λ e. no (sym e);
    gone = λ e. sym (ap (λ (f : Files). f u.connection.name) is) ∙ ap (λ b. if b then None else s.files u.connection.name) (bytes_are u.connection.name u.connection.name refl);
    files = λ name other. sym (ap (λ (f : Files). f name) is) ∙ ap (λ b. if b then None else s.files name) (bytes_differ name u.connection.name other);
  }

  pub closed_by : (keep : Bool) (done : State × Condition) → done ≡ (disconnected s u keep, Fine) → IsClosed s u (not keep) done.0 × (done.1 ≡ Fine)
  closed_by keep done is =
      (subst (λ (x : State × Condition). IsClosed s u (not keep) x.0) (sym is) (left_as (left u.connection keep s.files) keep refl), ap (λ (x : State × Condition). x.1) is)

  is_closed : (keep : Option Bool) (deleted : Bool) → (u.connection.modes.scratch ≡ true → keep ≢ Some true) → Deletes u keep deleted
      → IsClosed s u deleted (closes s keep (Some u)).0 × ((closes s keep (Some u)).1 ≡ Fine)
  is_closed _ _ allowed is_told = by u.connection.modes.scratch refl
    where
      by : (b : Bool) → u.connection.modes.scratch ≡ b → IsClosed s u false (closes s (Some true) (Some u)).0 × ((closes s (Some true) (Some u)).1 ≡ Fine)
      by true e = absurd (allowed e refl)
      by false e = closed_by true (closes s (Some true) (Some u)) (ap (λ b. if b then (s, Error 4) else (disconnected s u true, Fine)) e)
  is_closed _ _ allowed is_told_to = closed_by false (closes s (Some false) (Some u)) refl
  is_closed _ _ allowed (of_scratch e) = closed_by false (closes s None (Some u)) (ap (λ b. (disconnected s u (not b), Fine)) e)
  is_closed _ _ allowed (is_no_scratch e) = closed_by true (closes s None (Some u)) (ap (λ b. (disconnected s u (not b), Fine)) e)

pub close_leaves : CloseLeavesFile
close_leaves control variables s ref keep status n is = (
  λ at. ap (closes s keep) (at_number s ref n None is at),
  λ u at scratch told. ap (closes s keep) (at_number s ref n (Some u) is at) ∙ refuses_keep s u keep scratch told,
  λ u deleted at allowed how.
      subst (λ o. IsClosed s u deleted (closes s keep o).0 × ((closes s keep o).1 ≡ Fine)) (sym (at_number s ref n (Some u) is at)) (is_closed s u keep deleted allowed how),
)

closed_anyway : (s : State) (u : Unit) (keep : Option Bool) (deleted : Bool) → DeletesAnyway u keep deleted → IsClosed s u deleted (closes_anyway s keep (Some u))
closed_anyway s u keep _ (scratch_goes e) = (closed_by s u false (closes_anyway s keep (Some u), Fine) (ap (λ b. (disconnected s u (not b && unwrap_or keep true), Fine)) e)).0
closed_anyway s u _ _ (told_to_delete e) = (closed_by s u false (closes_anyway s (Some false) (Some u), Fine) (ap (λ b. (disconnected s u (not b && false), Fine)) e)).0
closed_anyway s u _ _ (told_to_keep e) = (closed_by s u true (closes_anyway s (Some true) (Some u), Fine) (ap (λ b. (disconnected s u (not b && true), Fine)) e)).0
closed_anyway s u _ _ (told_nothing e) = (closed_by s u true (closes_anyway s None (Some u), Fine) (ap (λ b. (disconnected s u (not b && true), Fine)) e)).0

pub close_closes : CloseClosesAnyway
close_closes variables s ref keep status n is = (
  λ at. ap (closes_anyway s keep) (at_number s ref n None is at),
  λ u deleted at how. subst (λ o. IsClosed s u deleted (closes_anyway s keep o)) (sym (at_number s ref n (Some u) is at)) (closed_anyway s u keep deleted how),
)
