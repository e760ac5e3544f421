-- At each job of a statement the file that it opens is the one that it opens just before it.
use Rattle.std.proofs.Common.{◌≡◌, ℕ, List, [], ◌∷◌, Option, slice_get, refl, sym, ap, ◌∙◌, subst}
use Rattle.std.specs.Prelude.{◌==◌, not}
use Rattle.std.proofs.lemmas.Bool.{eq-eqb}
use Rattle.fj_value.specs.declared.condition.Condition.{Condition}
use Rattle.fj_value.specs.declared.condition.Condition.TheVariants.{Fine, EndOfFile, EndOfRecord, Error}
use Rattle.fj_modes.specs.declared.modes.Modes.{Modes}
use Rattle.fj_modes.specs.declared.specifiers.OpenSpec.{OpenSpec}
use Rattle.fj_statement.specs.declared.unit.UnitRef.{UnitRef}
use Rattle.fj_value.specs.declared.place.Place.{Place}
use Rattle.fj_control.specs.Steps.{Given}
use Rattle.fj_statement.specs.declared.deck.Variable.{Variable}
use Rattle.fj_statement.specs.declared.statement.Statement.{Statement}
use Rattle.fj_statement.specs.declared.statement.Statement.TheVariants as statement
use Rattle.fj_bay.specs.Jobs.{Job}
use Rattle.fj_meaning.specs.Needs.{number_of}
use Rattle.fj_meaning.specs.Statement.{Stated}
use Rattle.fj_meaning.specs.Telling.{condition_of}
use Rattle.fj_meaning_jobs.specs.Core.{Core, connected_at}
use Rattle.fj_meaning_jobs.specs.Desks.{Outcome, log_length}
use Rattle.fj_meaning_jobs.specs.Desks as desks
use Rattle.fj_meaning_jobs.specs.Desking.{told_core}
use Rattle.fj_meaning_jobs.specs.Doing.{Doing, finishes, gives, awaits, Desked}
use Rattle.fj_meaning_jobs.specs.Acting.{keeps, disconnected, came_out, connects, opens_unit, if_numbered, doing}
use Rattle.fj_meaning_jobs.proofs.Walking.{either, connects_by, open_by}
use Rattle.fj_meaning_turns.specs.Inside.{waited_at, does, walked}
use Rattle.fj_meaning_turns.specs.Standing.{GivesNext}
use Rattle.fj_meaning_turns.specs.Turns.{halted_slots, ends_halts}
use Rattle.fj_meaning_turns.proofs.Seated.{found_number}
use Rattle.fj_meaning_cut.specs.Others.{names_of, file_opened}
use Rattle.fj_meaning_cut.proofs.Connecting.{opens_new, opens_other}
use Rattle.fj_meaning_cut.proofs.Points.{at_point}
use Rattle.fj_meaning_cut.proofs.Seats.{missing_filter}

-- at each job that file is opened by units as they are then
abbrev Opens : Statement → Option (List ℕ) → Doing → Type 0
Opens st file (finishes core condition) = Unit {0}
Opens st file (gives slot job core next) = (file_opened (names_of core.units) st ≡ file) × ((number : ℕ) → Opens st file (next number))
Opens st file (awaits slot job core next) = (file_opened (names_of core.units) st ≡ file) × ((o : Outcome) → Opens st file (next o))

module _ (file : Option (List ℕ)) (u : UnitRef) (spec : OpenSpec) (iostat : Option Place) where
  abbrev this : Statement
  this = statement.OpenUnit u spec iostat

  connects_opens : (core : Core) (n : ℕ) (modes : Modes) → file_opened (names_of core.units) this ≡ file → Opens this file (connects n spec modes core)
  connects_opens core n modes e = connects_by (Opens this file) core n spec modes (λ condition. tt) (λ slot c free is. (e, λ o. tt))

  open_opens : (core : Core) → file_opened (names_of core.units) this ≡ file → Opens this file (if_numbered core (number_of u) (λ n. opens_unit core u n spec (connected_at core.units n)))
  open_opens core e =
      open_by (Opens this file) core u spec (number_of u) (λ condition. tt) (λ n old modes is at. (e, λ o. tt)) (λ n modes is at. connects_opens core n modes e)
      (λ n old modes is at other. (
        e,
        λ o. either (Opens this file) (came_out old o) _ _ (connects_opens (disconnected core old (keeps old) o) n modes
            (opens_new (disconnected core old (keeps old) o).units (number_of u) spec n is
            (missing_filter (λ k. not (k == old.number)) core.units n (ap not (eq-eqb n old.number (sym (found_number core.units n old at)))))
            ∙ sym (opens_other core.units (number_of u) spec n old is at other) ∙ e)) tt,
      ))

  doing_opens : (control : ℕ → List Given) (variables : List Variable) (line : ℕ) (core : Core) (condition : Condition) → file_opened (names_of core.units) this ≡ file → Opens this file (doing control variables line core this condition)
  doing_opens control variables line core Fine e = open_opens core e
  doing_opens control variables line core EndOfFile e = tt
  doing_opens control variables line core EndOfRecord e = tt
  doing_opens control variables line core (Error n) e = tt

  halts_opens : (slots : List ℕ) (core : Core) (next : Doing) → file_opened (names_of core.units) this ≡ file → Opens this file next → Opens this file (ends_halts slots core next)
  halts_opens [] core next e h = h
  halts_opens (slot ∷ slots) core next e h = (e, λ number. halts_opens slots core next e h)

-- where it gives a job
opens_now : (st : Statement) (file : Option (List ℕ)) (d : Doing) (slot : ℕ) (job : Job) (core : Core) → GivesNext d slot job core → Opens st file d → file_opened (names_of core.units) st ≡ file
opens_now st file (finishes now condition) slot job core g h = absurd g
opens_now st file (gives at task now next) slot job core g h = ap (λ (k : Core). file_opened (names_of k.units) st) (sym g.2) ∙ h.0
opens_now st file (awaits at task now next) slot job core g h = ap (λ (k : Core). file_opened (names_of k.units) st) (sym g.2) ∙ h.0

pub opened_so : (variables : List Variable) (st : Stated) (p : Desked) (jobs slot : ℕ) (job : Job) (core : Core) → GivesNext (walked jobs p.desks (does variables st p)).1 slot job core
    → file_opened (names_of core.units) st.0.what ≡ file_opened (names_of p.core.units) st.0.what
opened_so variables st p jobs slot job core g = by st.0.what refl
  where
    by : (what : Statement) → st.0.what ≡ what → file_opened (names_of core.units) what ≡ file_opened (names_of p.core.units) what
    by (statement.Assign to from) is = refl
    by (statement.OpenUnit u spec iostat) is =
        let what : Statement = statement.OpenUnit u spec iostat in
        let file = file_opened (names_of p.core.units) what in
        let now : Core = told_core variables st.0.line (waited_at st p) p.core in
        let so : Opens what file (doing st.1 variables st.0.line now st.0.what (condition_of (waited_at st p))) =
        subst (λ w. Opens what file (doing st.1 variables st.0.line now w (condition_of (waited_at st p)))) (sym is) (doing_opens file u spec iostat st.1 variables st.0.line now (condition_of (waited_at st p)) refl) in
        opens_now what file (walked jobs p.desks (does variables st p)).1 slot job core g
        (at_point (λ ds d. Opens what file d) (λ ds slot job core next h. h.1 (log_length (slice_get ds slot))) (λ ds slot job core next h. h.1 (desks.outcome ds slot job)) jobs p.desks (does variables st p)
        (halts_opens file u spec iostat (halted_slots (waited_at st p) p.core.units) now _ refl so))
    by (statement.CloseUnit u keep iostat) is = refl
    by (statement.WaitFor u id iostat) is = refl
    by (statement.Move how u iostat) is = refl
    by (statement.Inquire subject asked id iostat _) is = refl
    by (statement.Transfer t) is = refl
    by statement.End is = refl
