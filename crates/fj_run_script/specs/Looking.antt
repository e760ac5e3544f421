-- What a run looks for, and what it is once that is known.
use Rattle.std.specs.Prelude.{◌≡◌, ℕ, nat_lt, not, Bool, List, [], ◌∷◌, ◌++◌, drop, Option, Some, None, slice_get, slice_set, if◌then◌else◌}
use Rattle.fj_outside.specs.declared.outside.FileStore.{Ghosts}
use Rattle.fj_statement.specs.Units.{looked}
use Rattle.fj_statement.specs.declared.deck.Lined.{Lined}
use Rattle.fj_meaning.specs.State.{Files}
use Rattle.fj_meaning.specs.Statement.{stated}
use Rattle.fj_meaning_turns.specs.Run.{Run, Start}
use Rattle.fj_meaning_looks.specs.Inquiring.{Question, question_here}
use Rattle.fj_meaning_looks.specs.Stretches.{with_rest}
use Rattle.fj_run_script.specs.Machine.{run_at, run_of}
use Rattle.fj_run_script.specs.declared.looking.Look.{Look}
use Rattle.fj_run_script.specs.declared.machine.Machine.{Machine}
use Rattle.fj_run_script.specs.declared.stage.Stage.{Stage}
use Rattle.fj_run_script.specs.declared.stage.Stage.TheVariants as stage

abbrev pub started_by : {F : Type 0} → Stage F → Option Question → Option Question
started_by stage.Start question = question
started_by _ question = None

-- what it looks for, where it stands at a look and is not over
abbrev pub question_in : {F : Type 0} {ghosts : Ghosts F} → Files → Machine F ghosts → Option Question
question_in files m = if m.tally.over then None else started_by m.state.stage (question_here (run_at files m Start))

-- where so many jobs of the slot are done, all of the transfers are, or not
abbrev pub are_done : Question → ℕ → Bool
are_done question done = nat_lt question.last done

abbrev pub known_at : Question → ℕ → Lined → Lined
known_at question done l = record l { what = looked question.unit (are_done question done) l.what }

abbrev pub look_at : Question → ℕ → Lined → Look
look_at question done l = record { line = l.line; unit = question.unit; pending = not (are_done question done); done = done }

-- The statement at hand gets to know it, and the look is kept.
pub record HasLooked {F : Type 0} {ghosts : Ghosts F} (told : F → Bool) (bytes : F → List ℕ) (done : ℕ) (m m' : Machine F ghosts) : Type 0 where
  pub question : Question
  pub is : (files : Files) → question_in files m ≡ Some question
  pub lined : Lined
  pub here : slice_get m.deck.statements m.at.place ≡ Some lined
  pub deck : m'.deck ≡ record m.deck { statements = slice_set m.deck.statements m.at.place (known_at question done lined) }
  pub looks : m'.looks.items ≡ m.looks.items ++ look_at question done lined ∷ []
  pub at : m'.at ≡ record { place = m.at.place; number = None }
  pub state : m'.state ≡ m.state
  pub tally : m'.tally ≡ m.tally
  pub kept : m'.kept ≡ m.kept
  pub run : (files : Files) (r : Run) → run_of told bytes files m ≡ Some r → run_of told bytes files m' ≡ Some (with_rest (drop m.at.place (stated m'.deck.statements)) r)
