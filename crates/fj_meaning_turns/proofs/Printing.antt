-- The output: only a WRITE on `*` prints, and that gives no job and waits for nothing.
use Rattle.std.proofs.Common.{◌≡◌, ◌⊎◌, ℕ, ℤ, Bool, true, false, List, [], ◌∷◌, Option, Some, None, slice_get, refl, sym, ap, ◌∙◌, subst, inl, inr, ◌&&◌}
use Rattle.std.specs.Prelude.{if◌then◌else◌, unwrap_or}
use Rattle.std.specs.List.{list_any}
use Rattle.fj_value.specs.declared.condition.Condition.{Condition}
use Rattle.fj_value.specs.declared.condition.Condition.TheVariants.{Fine}
use Rattle.fj_modes.specs.declared.modes.Modes.{Modes}
use Rattle.fj_modes.specs.declared.specifiers.OpenSpec.{OpenSpec}
use Rattle.fj_modes.specs.declared.asked.Wanted.{Wanted}
use Rattle.fj_modes.specs.declared.motion.Motion.{Motion}
use Rattle.fj_statement.specs.declared.unit.UnitRef.{UnitRef}
use Rattle.fj_statement.specs.declared.unit.UnitRef.TheVariants as unit
use Rattle.fj_moved.specs.declared.moved.Moved.{Moved}
use Rattle.fj_control.specs.Steps.{Given}
use Rattle.fj_statement.specs.declared.deck.Variable.{Variable}
use Rattle.fj_statement.specs.declared.statement.Statement.{Statement}
use Rattle.fj_statement.specs.declared.statement.Statement.TheVariants as statement
use Rattle.fj_statement.specs.declared.statement.Transfer.{Transfer}
use Rattle.fj_bay.specs.Halt.{halts}
use Rattle.fj_store.specs.Variables.{Variables}
use Rattle.fj_meaning.specs.Needs.{number_of, number_given, unit_about}
use Rattle.fj_meaning.specs.State.{Entry, Output}
use Rattle.fj_meaning.specs.Telling.{of_unit, is_asynchronous, waited_in, condition_of}
use Rattle.fj_meaning.specs.Transfers.{moved_in}
use Rattle.fj_meaning.specs.Statement.{Stated, file_asked}
use Rattle.fj_meaning_jobs.specs.Core.{Core, Connected, connected_at, unit_named}
use Rattle.fj_meaning_jobs.specs.Desks.{Desk, Outcome, carry, log_length}
use Rattle.fj_meaning_jobs.specs.Desks as desks
use Rattle.fj_meaning_jobs.specs.Doing.{Doing, finishes, gives, awaits, Desked, acted}
use Rattle.fj_meaning_jobs.specs.Acting.{finishes_behind, transferred, on_unit, transfer_at, keeps, disconnected, came_out, detaches, closes, closes_anyway, all_closed, connects, opens_unit, moves, asks_connection, inquires, if_numbered, unit_at, own, doing}
use Rattle.fj_meaning_jobs.specs.Desking.{told_core}
use Rattle.fj_meaning_jobs.proofs.Walking.{either, unit_by, closes_by, anyway_by, connects_by, open_by, doing_by}
use Rattle.fj_meaning_turns.specs.Run.{Held}
use Rattle.fj_meaning_turns.specs.Turns.{unsettled, halted_slots, ends_halts, doing_told}
use Rattle.fj_meaning_turns.specs.Inside.{waited_at, does}
use Rattle.fj_meaning_turns.proofs.Pending.{none_halted}

-- it leaves this output, and has it while each job is out
abbrev pub Silent : Output → Doing → Type 0
Silent o (finishes core condition) = core.output ≡ o
Silent o (gives slot job core next) = (core.output ≡ o) × ((number : ℕ) → Silent o (next number))
Silent o (awaits slot job core next) = (core.output ≡ o) × ((x : Outcome) → Silent o (next x))

-- where it gives a job or awaits one, it leaves this output
abbrev pub Quiet : Output → Doing → Type 0
Quiet o (finishes core condition) = Unit {0}
Quiet o (gives slot job core next) = (core.output ≡ o) × ((number : ℕ) → Silent o (next number))
Quiet o (awaits slot job core next) = (core.output ≡ o) × ((x : Outcome) → Silent o (next x))

pub silent_quiet : (o : Output) (d : Doing) → Silent o d → Quiet o d
silent_quiet o (finishes core condition) h = tt
silent_quiet o (gives slot job core next) h = h
silent_quiet o (awaits slot job core next) h = h

pub silent_acted : (o : Output) (d : Doing) (ds : List Desk) → Silent o d → (acted ds d).0.core.output ≡ o
silent_acted o (finishes core condition) ds h = h
silent_acted o (gives slot job core next) ds h = silent_acted o (next (log_length (slice_get ds slot))) (carry ds slot job) (h.1 (log_length (slice_get ds slot)))
silent_acted o (awaits slot job core next) ds h = silent_acted o (next (desks.outcome ds slot job)) (carry ds slot job) (h.1 (desks.outcome ds slot job))

-- ---- READ and WRITE on a unit

behind_silent : (o : Output) (u : Connected) (core : Core) (condition : Condition) → core.output ≡ o → Silent o (finishes_behind u core condition)
behind_silent o u core condition h = either (Silent o) (halts condition) _ _ (h, λ number. h) h

module _ (control : ℕ → List Given) (variables : List Variable) (line : ℕ) (core : Core) (t : Transfer) (moved : Moved) where
  transferred_silent : (u : Connected) → Silent core.output (transferred control variables line core t moved u)
  transferred_silent u = either (Silent core.output) (is_asynchronous t) _ _ (refl, λ number. refl) (refl, λ x. behind_silent core.output u _ _ refl)

  unit_silent : (o : Option Connected) → Silent core.output (on_unit control variables line core t moved o)
  unit_silent o = unit_by (Silent core.output) control variables line core t moved o (λ condition. refl) (λ u e. transferred_silent u)

-- ---- CLOSE

detaches_silent : (o : Output) (core : Core) (u : Connected) (keep : Bool) (next : Core → Doing) → core.output ≡ o → ((new : Core) → new.output ≡ o → Silent o (next new)) → Silent o (detaches core u keep next)
detaches_silent o core u keep next h f = (h, λ x. either (Silent o) (came_out u x) _ _ (f (disconnected core u keep x) h) h)

closes_silent : (core : Core) (keep : Option Bool) (at : Option Connected) → Silent core.output (closes core keep at)
closes_silent core keep at = closes_by (Silent core.output) core keep at (λ condition. refl) (λ u e. detaches_silent core.output core u (unwrap_or keep (keeps u)) (λ new. finishes new Fine) refl (λ new h. h))

anyway_silent : (core : Core) (keep : Option Bool) (condition : Condition) (at : Option Connected) → Silent core.output (closes_anyway core keep condition at)
anyway_silent core keep condition at =
    anyway_by (Silent core.output) core keep condition at refl (λ u e. detaches_silent core.output core u (keeps u && unwrap_or keep true) (λ new. finishes new condition) refl (λ new h. h))

all_silent : (o : Output) (us : List Connected) (core : Core) (condition : Condition) → core.output ≡ o → Silent o (all_closed us core condition)
all_silent o [] core condition h = h
all_silent o (u ∷ us) core condition h = detaches_silent o core u (keeps u) (λ new. all_closed us new condition) h (λ new k. all_silent o us new condition k)

-- ---- OPEN

connects_silent : (o : Output) (core : Core) (number : ℕ) (spec : OpenSpec) (modes : Modes) → core.output ≡ o → Silent o (connects number spec modes core)
connects_silent o core number spec modes h = connects_by (Silent o) core number spec modes (λ condition. h) (λ slot c free e. (h, λ x. h))

open_silent : (core : Core) (ref : UnitRef) (spec : OpenSpec) (number : Option ℕ) → Silent core.output (if_numbered core number (λ n. opens_unit core ref n spec (connected_at core.units n)))
open_silent core ref spec number =
    open_by (Silent core.output) core ref spec number (λ condition. refl) (λ n u modes is e. (refl, λ x. refl)) (λ n modes is e. connects_silent core.output core n spec modes refl)
    (λ n u modes is e other. detaches_silent core.output core u (keeps u) (connects n spec modes) refl (λ new h. connects_silent core.output new n spec modes h))

-- ---- the motions, INQUIRE

moves_silent : (core : Core) (how : Motion) (at : Option Connected) → Silent core.output (moves core how at)
moves_silent core how None = refl
moves_silent core how (Some u) = (refl, λ x. refl)

inquires_silent : (variables : List Variable) (core : Core) (number : Option ℕ) (file : Option (List ℕ)) (asked : List Wanted) (id : Option ℤ) (at : Option Connected) → Silent core.output (inquires variables core number file asked id at)
inquires_silent variables core number file asked id None = refl
inquires_silent variables core number file asked id (Some u) = either (Silent core.output) (list_any (λ (w : Wanted). asks_connection w.what) asked) _ _ (refl, λ x. refl) refl

-- ---- each kind of statement

-- it ends with no job
abbrev Ends : Doing → Type 0
Ends (finishes core condition) = Unit {0}
Ends (gives slot job core next) = ⊥
Ends (awaits slot job core next) = ⊥

-- it waits for nothing, and gives no job
record IsAlone (what : Statement) : Type 0 where
  waits : (es : List Entry) (vars : Variables) → waited_in es vars what ≡ []
  ends : (control : ℕ → List Given) (variables : List Variable) (line : ℕ) (core : Core) → Ends (doing control variables line core what Fine)

abbrev IsSilent : Statement → Type 0
IsSilent what = (control : ℕ → List Given) (variables : List Variable) (line : ℕ) (core : Core) (condition : Condition) → Silent core.output (doing control variables line core what condition)

doing_silent : (what : Statement) → ((control : ℕ → List Given) (variables : List Variable) (line : ℕ) (core : Core) → Silent core.output (own control variables line core what)) → IsSilent what
doing_silent what f control variables line core condition =
    doing_by (Silent core.output) control variables line core what (f control variables line core) (λ vars condition. refl) (λ u keep iostat condition is. anyway_silent core keep condition (unit_at core (number_of u)))
    (λ condition is. all_silent core.output core.units core condition refl) condition

-- a transfer on `*`, on an internal file, or on a unit
transfer_silent : (t : Transfer) (to : UnitRef) → t.unit ≡ to → IsAlone (statement.Transfer t) ⊎ IsSilent (statement.Transfer t)
transfer_silent t unit.Star e = inl (record {
  waits = λ es vars. ap (λ u. if is_asynchronous t then [] else of_unit es (number_of u)) e ∙ both (is_asynchronous t);
  ends = λ control variables line core. subst (λ u. Ends (transfer_at control variables line core t (moved_in variables core.vars t) u)) (sym e) tt;
})
  where
    both : (b : Bool) → ◌≡◌ {A = List Entry} (if b then [] else []) []
    both true = refl
    both false = refl
transfer_silent t (unit.Internal file) e =
    inr (doing_silent (statement.Transfer t) (λ control variables line core.
    subst (λ u. Silent core.output (transfer_at control variables line core t (moved_in variables core.vars t) u)) (sym e) refl))
transfer_silent t (unit.Number n) e =
    inr (doing_silent (statement.Transfer t) (λ control variables line core.
    subst (λ u. Silent core.output (transfer_at control variables line core t (moved_in variables core.vars t) u)) (sym e)
    (unit_silent control variables line core t (moved_in variables core.vars t) (connected_at core.units n))))
transfer_silent t (unit.Held place n) e =
    inr (doing_silent (statement.Transfer t) (λ control variables line core.
    subst (λ u. Silent core.output (transfer_at control variables line core t (moved_in variables core.vars t) u)) (sym e)
    (unit_silent control variables line core t (moved_in variables core.vars t) (connected_at core.units n))))
transfer_silent t (unit.New place n) e =
    inr (doing_silent (statement.Transfer t) (λ control variables line core.
    subst (λ u. Silent core.output (transfer_at control variables line core t (moved_in variables core.vars t) u)) (sym e)
    (unit_silent control variables line core t (moved_in variables core.vars t) (connected_at core.units n))))

alone_or_silent : (what : Statement) → IsAlone what ⊎ IsSilent what
alone_or_silent (statement.Assign to from) = inr (doing_silent (statement.Assign to from) (λ control variables line core. refl))
alone_or_silent (statement.OpenUnit u spec iostat) = inr (doing_silent (statement.OpenUnit u spec iostat) (λ control variables line core. open_silent core u spec (number_of u)))
alone_or_silent (statement.CloseUnit u keep iostat) = inr (doing_silent (statement.CloseUnit u keep iostat) (λ control variables line core. closes_silent core keep (unit_at core (number_of u))))
alone_or_silent (statement.WaitFor u id iostat) = inr (doing_silent (statement.WaitFor u id iostat) (λ control variables line core. refl))
alone_or_silent (statement.Move how u iostat) = inr (doing_silent (statement.Move how u iostat) (λ control variables line core. moves_silent core how (unit_at core (number_of u))))
alone_or_silent (statement.Inquire subject asked id iostat done) =
    inr (doing_silent (statement.Inquire subject asked id iostat done) (λ control variables line core.
    let number = unit_about (unit_named core.units) subject in inquires_silent variables core number (file_asked subject) asked (number_given core.vars id) (unit_at core number)))
alone_or_silent (statement.Transfer t) = transfer_silent t t.unit refl
alone_or_silent statement.End = inr (doing_silent statement.End (λ control variables line core. all_silent core.output core.units core Fine refl))

-- ---- all that a statement does

halts_silent : (o : Output) (slots : List ℕ) (core : Core) (next : Doing) → core.output ≡ o → Silent o next → Silent o (ends_halts slots core next)
halts_silent o [] core next e h = h
halts_silent o (slot ∷ slots) core next e h = (e, λ number. halts_silent o slots core next e h)

told_silent : (variables : List Variable) (st : Stated) (told : List Entry) (core : Core) → IsSilent st.0.what → Silent core.output (doing_told variables st told core)
told_silent variables st told core f =
    let new : Core = told_core variables st.0.line told core in
    halts_silent core.output (halted_slots told core.units) new (doing st.1 variables st.0.line new st.0.what (condition_of told)) refl (f st.1 variables st.0.line new (condition_of told))

ends_quiet : (o : Output) (d : Doing) → Ends d → Quiet o d
ends_quiet o (finishes core condition) h = tt
ends_quiet o (gives slot job core next) h = absurd h
ends_quiet o (awaits slot job core next) h = absurd h

alone_quiet : (variables : List Variable) (st : Stated) (p : Desked) → IsAlone st.0.what → Ends (does variables st p)
alone_quiet variables st p a =
    let new : Core = told_core variables st.0.line [] p.core in
    subst (λ told. Ends (doing_told variables st told p.core)) (sym (a.waits _ _))
    (subst (λ slots. Ends (ends_halts slots new (doing st.1 variables st.0.line new st.0.what Fine))) (sym (none_halted p.core.units))
    (a.ends st.1 variables st.0.line new))

-- where it gives a job, it leaves the output that there was
pub does_quiet : (variables : List Variable) (st : Stated) (p : Desked) → Quiet p.core.output (does variables st p)
does_quiet variables st p = by (alone_or_silent st.0.what)
  where
    by : IsAlone st.0.what ⊎ IsSilent st.0.what → Quiet p.core.output (does variables st p)
    by (inl a) = ends_quiet p.core.output (does variables st p) (alone_quiet variables st p a)
    by (inr f) = silent_quiet p.core.output (does variables st p) (told_silent variables st (waited_at st p) p.core f)

none_waited : (hs : List Held) → unsettled [] hs ≡ None
none_waited [] = refl
none_waited (h ∷ hs) = none_waited hs

-- where it waits for transfers, it leaves the output that there was
pub waits_silent : (variables : List Variable) (st : Stated) (p : Desked) (es : List Entry) (vars : Variables) (hs : List Held) (slot : ℕ) → unsettled (waited_in es vars st.0.what) hs ≡ Some slot
    → Silent p.core.output (does variables st p)
waits_silent variables st p es vars hs slot e = by (alone_or_silent st.0.what)
  where
    by : IsAlone st.0.what ⊎ IsSilent st.0.what → Silent p.core.output (does variables st p)
    by (inl a) = absurd (let z : None ≡ Some slot = sym (ap (λ l. unsettled l hs) (a.waits es vars) ∙ none_waited hs) ∙ e in cc)
    by (inr f) = told_silent variables st (waited_at st p) p.core f
