-- What a statement does next, as the program holds it, beside the same as plain data.
use Rattle.std.specs.Prelude.{◌≡◌, ℕ, ℤ, pos, ◌+◌, ◌++◌, Bool, List, [], ◌∷◌, Option, Some, None, if◌then◌else◌, Result, Ok, Err}
use Rattle.fj_value.specs.declared.condition.Condition.{Condition}
use Rattle.fj_value.specs.declared.condition.Condition.TheVariants.{Fine, Error}
use Rattle.fj_modes.specs.Modes.{settled}
use Rattle.fj_modes.specs.declared.modes.Modes.{Modes}
use Rattle.fj_modes.specs.declared.specifiers.OpenSpec.{OpenSpec}
use Rattle.fj_modes.specs.declared.asked.Wanted.{Wanted}
use Rattle.fj_statement.specs.declared.unit.Subject.{Subject}
use Rattle.fj_statement.specs.declared.deck.Variable.{Variable}
use Rattle.fj_statement.specs.declared.statement.Operand.{Operand}
use Rattle.fj_statement.specs.declared.statement.Statement.{Statement}
use Rattle.fj_statement.specs.declared.statement.Statement.TheVariants as statement
use Rattle.fj_statement.specs.declared.statement.Transfer.{Transfer}
use Rattle.fj_bay.specs.Halt.{halts}
use Rattle.fj_bay.specs.Jobs.{Looked, Job as PlainJob, resume}
use Rattle.fj_bay.specs.declared.job.Job.{Job}
use Rattle.fj_bay.specs.Plain.{task_of}
use Rattle.fj_meaning.specs.Needs.{unit_about, number_given}
use Rattle.fj_meaning.specs.Statement.{Stated, file_asked}
use Rattle.fj_meaning.specs.Transfers.{with_cells, with_number, held_places}
use Rattle.fj_meaning_jobs.specs.Core.{Core, Connected, connected_at, unit_named}
use Rattle.fj_meaning_jobs.specs.Desks.{Outcome, cells_in, count_in, look_in, condition_in}
use Rattle.fj_meaning_jobs.specs.Doing.{Doing as PlainDoing, finishes, gives, awaits}
use Rattle.fj_meaning_jobs.specs.Acting.{all_closed, connects, once_out, about_unit, answers, unit_at}
use Rattle.fj_run_units.specs.Units.{with_modes}
use Rattle.fj_run_statements.specs.declared.doing.Given.{Given}
use Rattle.fj_run_statements.specs.declared.doing.Given.TheVariants as given
use Rattle.fj_run_statements.specs.declared.doing.After.{After}
use Rattle.fj_run_statements.specs.declared.doing.After.TheVariants as after
use Rattle.fj_run_statements.specs.declared.doing.Then.{Then}
use Rattle.fj_run_statements.specs.declared.doing.Then.TheVariants as then
use Rattle.fj_run_statements.specs.declared.doing.Doing.{Doing}
use Rattle.fj_run_statements.specs.declared.doing.Doing.TheVariants as doing

-- ---- once the number of a job is known

-- the transfer, whose items are out of the variables, is pending under the next identifier
abbrev pub entered : List Variable → Core → Transfer → ℕ → ℕ → ℕ → Core
entered variables core t unit slot number = record core {
  vars = with_number variables t.id (pos core.next) core.vars;
  book = core.book ++ record { id = core.next; unit = unit; input = t.input; places = held_places variables t; size = t.size; slot = slot; number = number } ∷ [];
  next = core.next + 1;
}

abbrev pub pends : List Variable → Core → Statement → ℕ → ℕ → ℕ → PlainDoing
pends variables core (statement.Transfer t) unit slot number = finishes (entered variables core t unit slot number) Fine
pends variables core _ unit slot number = finishes core Fine

abbrev pub next_of : List Variable → Stated → Core → Given → ℕ → PlainDoing
next_of variables st core (given.Finishes condition) number = finishes core condition
next_of variables st core (given.Pends unit slot) number = pends variables core st.0.what unit slot number

-- ---- once a job was carried out

-- a halt that the transfer set ends
abbrev pub ends_behind : ℕ → Core → Condition → PlainDoing
ends_behind slot core condition = if halts condition then gives slot resume core (λ number. finishes core condition) else finishes core condition

-- the items, which are out of the variables, come back
abbrev pub carries : List Variable → Core → Statement → ℕ → Outcome → PlainDoing
carries variables core (statement.Transfer t) slot o =
    ends_behind slot (record core { vars = with_cells variables t (cells_in o.0) (count_in o.0) core.vars }) (condition_in o.1)
carries variables core _ slot o = finishes core Fine

-- the connection of a unit came out and is closed; where it did not, the unit counts as not connected (1)
abbrev pub closed : Core → Option Connected → Bool → (Core → PlainDoing) → Outcome → PlainDoing
closed core None keep next o = finishes core (Error 1)
closed core (Some u) keep next o = once_out core u keep next o

abbrev pub connects_by : ℕ → OpenSpec → Core → Result Modes Condition → PlainDoing
connects_by number spec core (Err condition) = finishes core condition
connects_by number spec core (Ok modes) = connects number spec modes core

abbrev pub connects_in : Statement → ℕ → Core → PlainDoing
connects_in (statement.OpenUnit u spec iostat) number core = connects_by number spec core (settled spec)
connects_in _ number core = finishes core Fine

abbrev pub goes_on : Statement → Core → After → PlainDoing
goes_on st core (after.Finishes condition) = finishes core condition
goes_on st core (after.ClosesAll condition) = all_closed core.units core condition
goes_on st core (after.Connects number) = connects_in st number core

abbrev pub looks_at : List Variable → Core → Option ℕ → Option (List ℕ) → List Wanted → Option ℤ → Option Connected → Option Looked → PlainDoing
looks_at variables core number file asked id None look = finishes core Fine
looks_at variables core number file asked id (Some u) look = answers variables core (about_unit core number file id u look) asked

abbrev pub looks : List Variable → Core → Statement → Outcome → PlainDoing
looks variables core (statement.Inquire subject asked id iostat _) o =
    let number = unit_about (unit_named core.units) subject in looks_at variables core number (file_asked subject) asked (number_given core.vars id) (unit_at core number) (look_in o.0)
looks variables core _ o = finishes core Fine

abbrev pub then_of : List Variable → Stated → Core → Then → Outcome → PlainDoing
then_of variables st core then.Finishes o = finishes core (condition_in o.1)
then_of variables st core (then.Carries slot) o = carries variables core st.0.what slot o
then_of variables st core (then.Closes number keep next) o = closed core (connected_at core.units number) keep (λ new. goes_on st.0.what new next) o
then_of variables st core (then.Changes number modes) o = finishes (record core { units = with_modes core.units (connected_at core.units number) modes }) (condition_in o.1)
then_of variables st core (then.Attaches us) o = finishes (record core { units = us }) (condition_in o.1)
then_of variables st core then.Looks o = looks variables core st.0.what o

-- ---- the same by what the program holds, where the files of connections tell their bytes

pub record IsGiven {F : Type 0} (told : F → Bool) (bytes : F → List ℕ) (job : Job F) (make : PlainJob → PlainDoing) (plain : PlainDoing) : Type 0 where
  pub task : PlainJob
  pub is : task_of told bytes job ≡ Some task
  pub gives : plain ≡ make task

abbrev pub IsDoing : {F : Type 0} → (F → Bool) → (F → List ℕ) → List Variable → Stated → Core → Doing F → PlainDoing → Type 0
IsDoing told bytes variables st core (doing.Finishes condition) plain = plain ≡ finishes core condition
IsDoing told bytes variables st core (doing.Gives slot job next) plain = IsGiven told bytes job (λ task. gives slot task core (next_of variables st core next)) plain
IsDoing told bytes variables st core (doing.Awaits slot job next) plain = IsGiven told bytes job (λ task. awaits slot task core (then_of variables st core next)) plain

-- the statement is an OPEN of these specifiers
abbrev pub AsksToOpen : Statement → OpenSpec → Type 0
AsksToOpen (statement.OpenUnit u spec iostat) asked = spec ≡ asked
AsksToOpen _ asked = ⊥

-- the statement is an INQUIRE of these specifiers
abbrev pub AsksAbout : Statement → Subject → List Wanted → Option Operand → Type 0
AsksAbout (statement.Inquire about wanted id iostat _) subject asked given_id = (about ≡ subject) × (wanted ≡ asked) × (id ≡ given_id)
AsksAbout _ subject asked given_id = ⊥

-- the statement ends
abbrev pub Ends : {F : Type 0} → Doing F → Type 0
Ends (doing.Finishes condition) = Unit {0}
Ends _ = ⊥
