-- What a turn comes to, as plain data.
use Rattle.std.specs.Prelude.{◌≡◌, ℕ, Bool, List, Some}
use Rattle.fj_statement.specs.declared.deck.Variable.{Variable}
use Rattle.fj_world.specs.declared.ask.Ask.{Ask}
use Rattle.fj_world.specs.declared.ask.Ask.TheVariants.{Submit, Settle, Finished}
use Rattle.fj_bay.specs.Jobs.{Job as PlainJob}
use Rattle.fj_bay.specs.Plain.{task_of}
use Rattle.fj_bay.specs.declared.job.Job.{Job}
use Rattle.fj_meaning.specs.State.{Files}
use Rattle.fj_meaning.specs.Statement.{Stated}
use Rattle.fj_meaning_turns.specs.Run.{Run, Stage as PlainStage, Start}
use Rattle.fj_meaning_turns.specs.Turns.{Turn, Asked}
use Rattle.fj_meaning_turns.specs.Turns as turn
use Rattle.fj_outside.specs.declared.outside.FileStore.{Ghosts}
use Rattle.fj_run_statements.specs.State.{core_of}
use Rattle.fj_run_script.specs.Machine.{stage_of, run_in, run_of}
use Rattle.fj_run_script.specs.declared.stage.Stage.TheVariants as stage
use Rattle.fj_run_script.specs.declared.state.State.{State}
use Rattle.fj_run_script.specs.declared.machine.Machine.{Machine}
use Rattle.fj_run_script.specs.declared.turned.Turned.{Turned}
use Rattle.fj_run_script.specs.declared.turned.Turned.TheVariants as turned

module _ {F : Type 0} (told : F → Bool) (bytes : F → List ℕ) where
  -- the ask is this one
  abbrev pub IsTask : Ask PlainJob → Ask (Job F) → Type 0
  IsTask (Submit slot task) (Submit slot' job) = (slot' ≡ slot) × (task_of told bytes job ≡ Some task)
  IsTask (Settle slot) (Settle slot') = slot' ≡ slot
  IsTask Finished Finished = Unit {0}
  IsTask a b = ⊥

module _ {F : Type 0} {ghosts : Ghosts F} (told : F → Bool) (bytes : F → List ℕ) where
  -- it pauses at this ask; the state is then at a stage
  pub record Pausing (variables : List Variable) (rest : List Stated) (files : Files) (s : State F ghosts) (ask : Ask (Job F)) (t : Turn) : Type 0 where
    pub due : Ask PlainJob
    pub stage : PlainStage
    pub asks : IsTask told bytes due ask
    pub stands : stage_of told bytes variables rest (core_of files s.core) s.stage ≡ Some stage
    pub comes : t ≡ turn.Pauses due (run_in variables rest files s stage)

  -- a state is left, at the start of a statement where it does not pause
  abbrev pub IsTurn : List Variable → List Stated → Files → State F ghosts → Turned F → Turn → Type 0
  IsTurn variables rest files s (turned.Pauses ask) t = Pausing variables rest files s ask t
  IsTurn variables rest files s turned.Passes t = (s.stage ≡ stage.Start) × (t ≡ turn.Passes (run_in variables rest files s Start))
  IsTurn variables rest files s turned.Stops t = (s.stage ≡ stage.Start) × (t ≡ turn.Stops (run_in variables rest files s Start))

  -- the state is that run
  pub record Stands (variables : List Variable) (rest : List Stated) (files : Files) (s : State F ghosts) (r : Run) : Type 0 where
    pub stage : stage_of told bytes variables rest (core_of files s.core) s.stage ≡ Some r.stage
    pub run : run_in variables rest files s r.stage ≡ r

  -- it comes to what is asked next
  pub record IsAsked (files : Files) (m : Machine F ghosts) (ask : Ask (Job F)) (a : Asked) : Type 0 where
    pub run : run_of told bytes files m ≡ Some a.run
    pub asks : IsTask told bytes a.ask ask
