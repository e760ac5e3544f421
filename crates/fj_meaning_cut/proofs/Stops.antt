-- Where a stop was told, in the words of what the deck means.
use Rattle.std.proofs.Common.{◌≡◌, ℕ, Bool, true, false, List, [], ◌∷◌, Option, Some, None, refl, sym, ap, ◌∙◌, subst, inl, inr}
use Rattle.std.specs.Prelude.{◌==◌, ◌≢◌, if◌then◌else◌, option_map, option_and_then}
use Rattle.fj_statement.specs.declared.statement.Statement.{Statement}
use Rattle.fj_statement.specs.declared.statement.Statement.TheVariants as statement
use Rattle.fj_modes.specs.declared.specifiers.OpenSpec.{OpenSpec}
use Rattle.fj_meaning.specs.Needs.{number_of}
use Rattle.fj_meaning.specs.State.{State, Files, start, all_closed, found}
use Rattle.fj_meaning.specs.State as plain
use Rattle.fj_meaning.specs.Statement.{Result}
use Rattle.fj_meaning_jobs.specs.Core.{Core, Connected, connected_at, has_name}
use Rattle.fj_meaning_jobs.specs.Desks.{Desk}
use Rattle.fj_meaning_jobs.specs.Doing.{Desked}
use Rattle.fj_meaning_jobs.specs.Forgetting.{Same}
use Rattle.fj_meaning_jobs.proofs.Forgetting.{results_same}
use Rattle.fj_meaning_jobs.proofs.Seen.{Seen}
use Rattle.fj_meaning_turns.specs.Standing.{Waits, AwaitsJob}
use Rattle.fj_meaning_turns.proofs.Meant.{CutTied, cut_of_deck}
use Rattle.fj_modes.specs.declared.motion.Motion.TheVariants as motion
use Rattle.fj_meaning_cut.specs.Others.{Names, names_of, names_in, opens_on, file_opened, file_about, file_renewed, core_now, left_now, has_file, AreHoused, StopsLeaveOthers, CutRunsLeaveOthers}
use Rattle.fj_meaning_cut.proofs.Keeping.{has_before, has_behind}
use Rattle.fj_meaning_cut.proofs.Deck.{others_stay, units_keep_desks, housed_before}

-- ---- the same names

pub names_same : (ds : List Desk) (us : List Connected) (vs : List plain.Unit) → Seen ds us vs → (n : ℕ) → names_of us n ≡ names_in vs n
names_same ds [] [] b n = refl
names_same ds [] (v ∷ vs) b n = absurd b
names_same ds (u ∷ us) [] b n = absurd b
names_same ds (u ∷ us) (v ∷ vs) b n =
    ap (λ k. option_map (λ (x : Connected). x.name) (if k == n then Some u else connected_at us n)) b.0.number ∙ by (v.number == n) (names_same ds us vs b.1 n)
  where
    by : (t : Bool) → names_of us n ≡ names_in vs n
        → option_map (λ (x : Connected). x.name) (if t then Some u else connected_at us n) ≡ option_map (λ (x : plain.Unit). x.connection.name) (if t then Some v else found vs n)
    by true rest = ap Some b.0.name
    by false rest = rest

numbered_same : (names others : Names) (spec : OpenSpec) (number : Option ℕ) → ((n : ℕ) → names n ≡ others n)
    → option_and_then (λ n. opens_on (names n) spec n) number ≡ option_and_then (λ n. opens_on (others n) spec n) number
numbered_same names others spec None h = refl
numbered_same names others spec (Some n) h = ap (λ o. opens_on o spec n) (h n)

pub numbered_alike : (names others : Names) (number : Option ℕ) → ((n : ℕ) → names n ≡ others n) → option_and_then names number ≡ option_and_then others number
numbered_alike names others None h = refl
numbered_alike names others (Some n) h = h n

pub opened_same : (names others : Names) (st : Statement) → ((n : ℕ) → names n ≡ others n) → file_opened names st ≡ file_opened others st
opened_same names others (statement.Assign to from) h = refl
opened_same names others (statement.OpenUnit u spec iostat) h = numbered_same names others spec (number_of u) h
opened_same names others (statement.CloseUnit u keep iostat) h = refl
opened_same names others (statement.WaitFor u id iostat) h = refl
opened_same names others (statement.Move how u iostat) h = refl
opened_same names others (statement.Inquire subject asked id iostat _) h = refl
opened_same names others (statement.Transfer t) h = refl
opened_same names others statement.End h = refl

pub about_same : (names others : Names) (st : Statement) → ((n : ℕ) → names n ≡ others n) → file_about names st ≡ file_about others st
about_same names others (statement.Assign to from) h = refl
about_same names others (statement.OpenUnit u spec iostat) h = opened_same names others (statement.OpenUnit u spec iostat) h
about_same names others (statement.CloseUnit u None iostat) h = refl
about_same names others (statement.CloseUnit u (Some true) iostat) h = refl
about_same names others (statement.CloseUnit u (Some false) iostat) h = numbered_alike names others (number_of u) h
about_same names others (statement.WaitFor u id iostat) h = refl
about_same names others (statement.Move motion.Endfile u iostat) h = numbered_alike names others (number_of u) h
about_same names others (statement.Move motion.Backspace u iostat) h = refl
about_same names others (statement.Move motion.Rewind u iostat) h = refl
about_same names others (statement.Move motion.Flush u iostat) h = refl
about_same names others (statement.Inquire subject asked id iostat _) h = refl
about_same names others (statement.Transfer t) h = numbered_alike names others (number_of t.unit) h
about_same names others statement.End h = refl

pub renewed_same : (names others : Names) (st : Statement) → ((n : ℕ) → names n ≡ others n) → file_renewed names st ≡ file_renewed others st
renewed_same names others (statement.Assign to from) h = refl
renewed_same names others (statement.OpenUnit u spec iostat) h = opened_same names others (statement.OpenUnit u spec iostat) h
renewed_same names others (statement.CloseUnit u None iostat) h = refl
renewed_same names others (statement.CloseUnit u (Some true) iostat) h = refl
renewed_same names others (statement.CloseUnit u (Some false) iostat) h = numbered_alike names others (number_of u) h
renewed_same names others (statement.WaitFor u id iostat) h = refl
renewed_same names others (statement.Move how u iostat) h = refl
renewed_same names others (statement.Inquire subject asked id iostat _) h = refl
renewed_same names others (statement.Transfer t) h = refl
renewed_same names others statement.End h = refl

-- closing all units leaves the same files
pub closed_same : (p : Desked) (s : State) → Same p s → left_now p.desks p.core ≡ (all_closed s).files
closed_same p s same = ap (λ (r : Result). r.files) (results_same (record { desked = p; ending = None }) (record { state = s; ending = None }) (record { ending = refl; same = same }))

-- ---- a stop

pub stops_leave_others : StopsLeaveOthers
stops_leave_others variables deck files slot run desks stop = record {
  state = it.state;
  cut_is = it.cut_is;
  others = λ name free opened. by name free (λ e. opened (sym (opened_same (names_of stop.before.core.units) (names_in it.state.units) stop.statement.0.what (names_same stop.before.desks stop.before.core.units it.state.units it.tied.same.units)) ∙ e))
      ∙ ap (λ (f : Files). f name) (closed_same stop.before it.state it.tied.same);
  units = elim stop.learnt [ inl w ↦ as_before w | inr a ↦ after_job a ];
  keeps = λ name about new. has_unit name (about_same (names_of stop.before.core.units) (names_in it.state.units) stop.statement.0.what names ∙ about)
      (λ e. new (sym (renewed_same (names_of stop.before.core.units) (names_in it.state.units) stop.statement.0.what names) ∙ e));
}
  where
    it : CutTied variables deck stop.index (start variables files) stop.statement stop.before
    it = cut_of_deck variables deck files stop.index stop.statement stop.before stop.reached

    names : (n : ℕ) → names_of stop.before.core.units n ≡ names_in it.state.units n
    names = names_same stop.before.desks stop.before.core.units it.state.units it.tied.same.units

    has_unit : (name : List ℕ) → file_about (names_of stop.before.core.units) stop.statement.0.what ≡ Some name → file_renewed (names_of stop.before.core.units) stop.statement.0.what ≢ Some name
        → has_name run.core.units name ≡ true
    has_unit name about new = elim stop.learnt [
      | inl w ↦ ap (λ (c : Core). has_name c.units name) w.core ∙ has_before variables stop.statement stop.before name about new
      | inr a ↦ sym (ap (λ d. has_name (core_now d).units name) a.awaited) ∙ has_behind variables stop.statement stop.before a.jobs name about new
    ]

    waits : (name : List ℕ) → Waits stop.statement stop.before slot run desks → left_now desks run.core name ≡ left_now stop.before.desks stop.before.core name
    waits name w = ap (λ ds. left_now ds run.core name) w.desks_are ∙ ap (λ c. left_now stop.before.desks c name) w.core

    awaits : (name : List ℕ) → has_file run.core.units slot name ≡ false → file_opened (names_of stop.before.core.units) stop.statement.0.what ≢ Some name
        → AwaitsJob variables stop.statement stop.before slot run desks → left_now desks run.core name ≡ left_now stop.before.desks stop.before.core name
    awaits name free opened a =
        ap (λ ds. left_now ds run.core name) a.desks_are
        ∙ (others_stay variables deck files stop.index stop.statement stop.before a.jobs name stop.reached).out slot a.job run.core a.onward opened a.awaited free

    as_before : Waits stop.statement stop.before slot run desks → AreHoused desks run.core.units
    as_before w =
        subst (λ ds. AreHoused ds run.core.units) (sym w.desks_are)
        (subst (λ (c : Core). AreHoused stop.before.desks c.units) (sym w.core) (housed_before variables deck files stop.index stop.statement stop.before stop.reached))

    after_job : AwaitsJob variables stop.statement stop.before slot run desks → AreHoused desks run.core.units
    after_job a =
        subst (λ ds. AreHoused ds run.core.units) (sym a.desks_are)
        ((units_keep_desks variables deck files stop.index stop.statement stop.before a.jobs stop.reached).out slot a.job run.core a.onward a.awaited)

    by : (name : List ℕ) → has_file run.core.units slot name ≡ false → file_opened (names_of stop.before.core.units) stop.statement.0.what ≢ Some name → left_now desks run.core name ≡ left_now stop.before.desks stop.before.core name
    by name free opened = elim stop.learnt [ inl w ↦ waits name w | inr a ↦ awaits name free opened a ]

pub cut_runs_leave_others : CutRunsLeaveOthers
cut_runs_leave_others s variables deck files run rack it = stops_leave_others variables deck files it.slot run it.desks it.stop
