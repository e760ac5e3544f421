-- A file that a statement is about, and neither opens nor removes, has its unit all the while.
use Rattle.std.proofs.Common.{◌≡◌, ◌≢◌, ℕ, Bool, true, false, List, [], ◌∷◌, Option, Some, None, slice_get, refl, sym, ap, ◌∙◌, subst}
use Rattle.std.specs.Prelude.{◌==◌, ◌||◌, if◌then◌else◌, option_map, option_and_then}
use Rattle.std.specs.Str.{bytes_eq}
use Rattle.std.proofs.lemmas.Slice.Eq.{bytes_eq-Decides}
use Rattle.fj_value.specs.declared.condition.Condition.{Condition}
use Rattle.fj_value.specs.declared.condition.Condition.TheVariants.{Fine, EndOfFile, EndOfRecord, Error}
use Rattle.fj_modes.specs.declared.motion.Motion.{Motion}
use Rattle.fj_modes.specs.declared.motion.Motion.TheVariants as motion
use Rattle.fj_statement.specs.declared.unit.UnitRef.{UnitRef}
use Rattle.fj_statement.specs.declared.unit.UnitRef.TheVariants as unit
use Rattle.fj_moved.specs.declared.moved.Moved.{Moved}
use Rattle.fj_control.specs.Steps.{Given}
use Rattle.fj_statement.specs.declared.deck.Variable.{Variable}
use Rattle.fj_statement.specs.declared.statement.Statement.{Statement}
use Rattle.fj_statement.specs.declared.statement.Statement.TheVariants as statement
use Rattle.fj_statement.specs.declared.statement.Transfer.{Transfer}
use Rattle.fj_bay.specs.Halt.{halts}
use Rattle.fj_meaning.specs.Needs.{number_of}
use Rattle.fj_meaning.specs.State.{Entry}
use Rattle.fj_meaning.specs.Telling.{is_asynchronous, condition_of}
use Rattle.fj_meaning.specs.Transfers.{moved_in}
use Rattle.fj_meaning.specs.Statement.{Stated}
use Rattle.fj_meaning_jobs.specs.Core.{Core, Connected, connected_at, has_name}
use Rattle.fj_meaning_jobs.specs.Desks.{Desk, Outcome, carry, log_length}
use Rattle.fj_meaning_jobs.specs.Desks as desks
use Rattle.fj_meaning_jobs.specs.Desking.{told_core}
use Rattle.fj_meaning_jobs.specs.Doing.{Doing, finishes, gives, awaits, Desked}
use Rattle.fj_meaning_jobs.specs.Acting.{finishes_behind, transferred, transfer_at, moves, unit_at, doing}
use Rattle.fj_meaning_jobs.proofs.Walking.{either, unit_by}
use Rattle.fj_meaning_turns.specs.Turns.{halted_slots, ends_halts, doing_told}
use Rattle.fj_meaning_turns.specs.Inside.{waited_at, does, walked}
use Rattle.fj_meaning_cut.specs.Others.{names_of, file_about, file_renewed, core_now}
use Rattle.fj_meaning_cut.proofs.Points.{at_point}

-- the units stay as they are
abbrev Stays : List Connected → Doing → Type 0
Stays us (finishes core condition) = core.units ≡ us
Stays us (gives slot job core next) = (core.units ≡ us) × ((number : ℕ) → Stays us (next number))
Stays us (awaits slot job core next) = (core.units ≡ us) × ((o : Outcome) → Stays us (next o))

module _ (us : List Connected) where
  now_stays : (d : Doing) → Stays us d → (core_now d).units ≡ us
  now_stays (finishes core condition) h = h
  now_stays (gives slot job core next) h = h.0
  now_stays (awaits slot job core next) h = h.0

  point_stays : (jobs : ℕ) (ds : List Desk) (d : Doing) → Stays us d → Stays us (walked jobs ds d).1
  point_stays = at_point (λ ds d. Stays us d) (λ ds slot job core next h. h.1 (log_length (slice_get ds slot))) (λ ds slot job core next h. h.1 (desks.outcome ds slot job))

  behind_stays : (u : Connected) (core : Core) (condition : Condition) → core.units ≡ us → Stays us (finishes_behind u core condition)
  behind_stays u core condition e = either (Stays us) (halts condition) _ _ (e, λ number. e) e

  module _ (control : ℕ → List Given) (variables : List Variable) (line : ℕ) (core : Core) (e : core.units ≡ us) where
    transferred_stays : (t : Transfer) (moved : Moved) (u : Connected) → Stays us (transferred control variables line core t moved u)
    transferred_stays t moved u = either (Stays us) (is_asynchronous t) _ _ (e, λ number. e) (e, λ o. behind_stays u _ _ e)

    transfer_stays : (t : Transfer) (moved : Moved) (ref : UnitRef) → Stays us (transfer_at control variables line core t moved ref)
    transfer_stays t moved unit.Star = e
    transfer_stays t moved (unit.Internal file) = e
    transfer_stays t moved (unit.Number n) = unit_by (Stays us) control variables line core t moved (connected_at core.units n) (λ condition. e) (λ u is. transferred_stays t moved u)
    transfer_stays t moved (unit.Held place n) = unit_by (Stays us) control variables line core t moved (connected_at core.units n) (λ condition. e) (λ u is. transferred_stays t moved u)
    transfer_stays t moved (unit.New place n) = unit_by (Stays us) control variables line core t moved (connected_at core.units n) (λ condition. e) (λ u is. transferred_stays t moved u)

    moves_stays : (how : Motion) (o : Option Connected) → Stays us (moves core how o)
    moves_stays how None = e
    moves_stays how (Some u) = (e, λ o. e)

    transfer_does : (t : Transfer) (condition : Condition) → Stays us (doing control variables line core (statement.Transfer t) condition)
    transfer_does t Fine = transfer_stays t (moved_in variables core.vars t) t.unit
    transfer_does t EndOfFile = e
    transfer_does t EndOfRecord = e
    transfer_does t (Error n) = e

    motion_does : (how : Motion) (u : UnitRef) (iostat : _) (condition : Condition) → Stays us (doing control variables line core (statement.Move how u iostat) condition)
    motion_does how u iostat Fine = moves_stays how (unit_at core (number_of u))
    motion_does how u iostat EndOfFile = e
    motion_does how u iostat EndOfRecord = e
    motion_does how u iostat (Error n) = e

  halts_stay : (slots : List ℕ) (core : Core) (next : Doing) → core.units ≡ us → Stays us next → Stays us (ends_halts slots core next)
  halts_stay [] core next e h = h
  halts_stay (slot ∷ slots) core next e h = (e, λ number. halts_stay slots core next e h)

-- ---- the unit that has the file

or_true : (b c : Bool) → c ≡ true → (b || c) ≡ true
or_true true c e = refl
or_true false c e = e

has_it : (us : List Connected) (n : ℕ) (name : List ℕ) → names_of us n ≡ Some name → has_name us name ≡ true
has_it [] n name e = cc
has_it (u ∷ us) n name e = by (u.number == n) (has_it us n name) e
  where
    by : (b : Bool) → (names_of us n ≡ Some name → has_name us name ≡ true) → option_map (λ (x : Connected). x.name) (if b then Some u else connected_at us n) ≡ Some name → has_name (u ∷ us) name ≡ true
    by true later f =
        let same : u.name ≡ name = cc in ap (λ b. b || has_name us name) ((bytes_eq-Decides name u.name).1 (sym same))
    by false later f = or_true (bytes_eq name u.name) (has_name us name) (later f)

numbered_has : (us : List Connected) (number : Option ℕ) (name : List ℕ) → option_and_then (names_of us) number ≡ Some name → has_name us name ≡ true
numbered_has us None name e = cc
numbered_has us (Some n) name e = has_it us n name e

-- it is a READ, a WRITE or an ENDFILE, which leaves the units as they are
told_stays : (variables : List Variable) (st : Stated) (told : List Entry) (core : Core) (name : List ℕ) (what : Statement) → st.0.what ≡ what → file_about (names_of core.units) what ≡ Some name → file_renewed (names_of core.units) what ≢ Some name
    → Stays core.units (doing_told variables st told core) × (has_name core.units name ≡ true)
told_stays variables st told core name what is about new = by what about new (λ h. subst (λ w. Stays core.units (doing st.1 variables st.0.line now w (condition_of told))) (sym is) h)
  where
    now : Core
    now = told_core variables st.0.line told core

    halts_behind : Stays core.units (doing st.1 variables st.0.line now st.0.what (condition_of told)) → Stays core.units (doing_told variables st told core)
    halts_behind h = halts_stay core.units (halted_slots told core.units) now _ refl h

    by : (w : Statement) → file_about (names_of core.units) w ≡ Some name → file_renewed (names_of core.units) w ≢ Some name
        → (Stays core.units (doing st.1 variables st.0.line now w (condition_of told)) → Stays core.units (doing st.1 variables st.0.line now st.0.what (condition_of told)))
        → Stays core.units (doing_told variables st told core) × (has_name core.units name ≡ true)
    by (statement.Assign to from) e n back = cc
    by (statement.OpenUnit u spec iostat) e n back = absurd (n e)
    by (statement.CloseUnit u None iostat) e n back = cc
    by (statement.CloseUnit u (Some true) iostat) e n back = cc
    by (statement.CloseUnit u (Some false) iostat) e n back = absurd (n e)
    by (statement.WaitFor u id iostat) e n back = cc
    by (statement.Move motion.Endfile u iostat) e n back =
        (halts_behind (back (motion_does core.units st.1 variables st.0.line now refl motion.Endfile u iostat (condition_of told))), numbered_has core.units (number_of u) name e)
    by (statement.Move motion.Backspace u iostat) e n back = cc
    by (statement.Move motion.Rewind u iostat) e n back = cc
    by (statement.Move motion.Flush u iostat) e n back = cc
    by (statement.Inquire subject asked id iostat _) e n back = cc
    by (statement.Transfer t) e n back = (halts_behind (back (transfer_does core.units st.1 variables st.0.line now refl t (condition_of told))), numbered_has core.units (number_of t.unit) name e)
    by statement.End e n back = cc

-- so the unit is there just before the statement, and behind any number of its jobs
pub has_before : (variables : List Variable) (st : Stated) (before : Desked) (name : List ℕ) → file_about (names_of before.core.units) st.0.what ≡ Some name → file_renewed (names_of before.core.units) st.0.what ≢ Some name
    → has_name before.core.units name ≡ true
has_before variables st before name about new = (told_stays variables st (waited_at st before) before.core name st.0.what refl about new).1

pub has_behind : (variables : List Variable) (st : Stated) (before : Desked) (jobs : ℕ) (name : List ℕ) → file_about (names_of before.core.units) st.0.what ≡ Some name → file_renewed (names_of before.core.units) st.0.what ≢ Some name
    → has_name (core_now (walked jobs before.desks (does variables st before)).1).units name ≡ true
has_behind variables st before jobs name about new =
    let both = told_stays variables st (waited_at st before) before.core name st.0.what refl about new in
    let stays = point_stays before.core.units jobs before.desks (does variables st before) both.0 in
    ap (λ us. has_name us name) (now_stays before.core.units (walked jobs before.desks (does variables st before)).1 stays) ∙ both.1
