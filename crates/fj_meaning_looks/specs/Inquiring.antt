-- An INQUIRE statement that looks: it asks PENDING= of transfers that are pending, and it is not known yet whether they are done.
use Rattle.std.specs.Prelude.{ℕ, ℤ, pos, ◌==◌, ◌&&◌, max, Bool, true, false, List, [], ◌∷◌, filter, Option, Some, None, is_some, is_none, if◌then◌else◌}
use Rattle.std.specs.List.{list_any}
use Rattle.std.specs.Ordering.{int_eq}
use Rattle.fj_modes.specs.declared.asked.Wanted.{Wanted}
use Rattle.fj_statement.specs.declared.deck.Variable.{Variable}
use Rattle.fj_statement.specs.declared.statement.Statement.{Statement}
use Rattle.fj_statement.specs.declared.statement.Statement.TheVariants as statement
use Rattle.fj_meaning.specs.Inquiring.{asks_pending}
use Rattle.fj_meaning.specs.Needs.{number_given, unit_about}
use Rattle.fj_meaning.specs.Statement.{Stated}
use Rattle.fj_meaning_jobs.specs.Core.{Core, Pending, unit_named}
use Rattle.fj_meaning_turns.specs.Run.{Run, Stage, Start}
use Rattle.fj_meaning_turns.specs.Turns.{begun_for, rule_of}

-- PENDING= is asked for, and nobody has looked
abbrev pub asks_whether : Statement → Bool
asks_whether (statement.Inquire about asked id iostat None) = list_any (λ (w : Wanted). asks_pending w.what) asked
asks_whether st = false

-- the transfer of ID=, or any of the unit
abbrev pub is_asked : Option ℕ → Option ℤ → Pending → Bool
is_asked None id e = false
is_asked (Some unit) None e = e.unit == unit
is_asked (Some unit) (Some id) e = (e.unit == unit) && int_eq (pos e.id) id

-- the pending transfers that it asks about
abbrev pub asked_transfers : Core → Statement → List Pending
asked_transfers core (statement.Inquire about asked id iostat _) = filter (is_asked (unit_about (unit_named core.units) about) (number_given core.vars id)) core.book
asked_transfers core st = []

abbrev pub greatest : List Pending → ℕ
greatest [] = 0
greatest (e ∷ es) = max e.number (greatest es)

-- the unit, its slot, and the greatest number of their jobs
pub record Question : Type 0 where
  pub unit : ℕ
  pub slot : ℕ
  pub last : ℕ

abbrev pub question_of : List Pending → Option Question
question_of [] = None
question_of (e ∷ es) = Some (record { unit = e.unit; slot = e.slot; last = greatest (e ∷ es) })

-- Of a statement that has begun: what it looks for. One that is prohibited does not look.
abbrev pub looks_for : List Variable → Stated → Core → Option Question
looks_for variables st core = if asks_whether st.0.what && is_none (rule_of variables st core) then question_of (asked_transfers core st.0.what) else None

abbrev pub is_looking : Stated → Run → Bool
is_looking st r = is_some (looks_for r.variables (begun_for r st) r.core)

-- ---- at a look

abbrev pub question_at : List Stated → Run → Option Question
question_at [] r = None
question_at (st ∷ more) r = looks_for r.variables (begun_for r st) r.core

abbrev pub question_started : Stage → Run → Option Question
question_started Start r = question_at r.rest r
question_started _ r = None

-- what the run looks for, where it stands at a look
abbrev pub question_here : Run → Option Question
question_here r = if is_some r.ending then None else question_started r.stage r

-- ---- a runner that stops at looks, or never

abbrev pub looks_by : Bool → Stated → Run → Bool
looks_by true st r = is_looking st r
looks_by false st r = false

-- the statement at hand looks
abbrev pub look_due : (Stated → Run → Bool) → List Stated → Run → Bool
look_due looks [] r = false
look_due looks (st ∷ more) r = looks st r
