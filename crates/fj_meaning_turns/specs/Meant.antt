-- What a run leaves is what the deck means; and where it is cut, the statement and the state are those of what the deck means.
use Rattle.std.specs.Prelude.{◌≡◌, ℕ, false, List, Some}
use Rattle.fj_statement.specs.declared.deck.Variable.{Variable}
use Rattle.fj_slot.specs.Serving.{Meaning}
use Rattle.fj_world.specs.Alone.{ServedAlone}
use Rattle.fj_world.specs.Rack.{Rack}
use Rattle.fj_bay.specs.Bay.{Bay}
use Rattle.fj_bay.specs.Jobs.{Job, Answer}
use Rattle.fj_meaning.specs.State.{State, Files, start}
use Rattle.fj_meaning.specs.Statement.{Stated, step, executed, execution, cut}
use Rattle.fj_meaning.specs.Telling.{waited}
use Rattle.fj_meaning_jobs.specs.Desks.{Desk}
use Rattle.fj_meaning_jobs.specs.Doing.{Desked}
use Rattle.fj_meaning_jobs.specs.Desking.{desk_step, fresh, desk_result}
use Rattle.fj_meaning_jobs.specs.Forgetting.{Same, Forgets}
use Rattle.fj_meaning_turns.specs.Run.{Run}
use Rattle.fj_meaning_turns.specs.Serving.{over_bays, Shows, run_conduct, begins}
use Rattle.fj_meaning_turns.specs.Inside.{waited_at, cut_desks}
use Rattle.fj_meaning_turns.specs.Executing.{HoldsDesks}

-- With the desks that the slots hold, the runner is what the deck came to: the same ending, and the same state, so each connected unit
-- has its connection at its slot. The ending, output, tells and variables that are left are the runner's, and the files are those of the
-- runner and of the slots' connections.
pub record Leaves {E J A : Type 0} (m : Meaning E J A Bay Job Answer) (variables : List Variable) (deck : List Stated) (files : Files) (run : Run) (rack : Rack E J A) : Type 0 where
  pub desks : List Desk
  pub held : HoldsDesks m rack desks
  pub same : Forgets (record { desked = record { core = run.core; desks = desks }; ending = run.ending }) (executed variables deck (start variables files))
  pub result : desk_result (record { desked = record { core = run.core; desks = desks }; ending = run.ending }) ≡ execution variables deck files

module _ {E J A S : Type 0} (m : Meaning E J A Bay Job Answer) (s : Shows S) where
  -- for every deck: a script that was served alone and is not over
  abbrev pub LeavesResult : Type 0
  LeavesResult = (variables : List Variable) (deck : List Stated) (files : Files) (script : S) (rack : Rack E J A) (run : Run) →
      ServedAlone (over_bays m) (run_conduct s) (begins m s variables deck files) script rack → s.over script ≡ false → s.state script ≡ Some run →
      Leaves m variables deck files run rack

-- just before the same statement, in the same state
pub record IsCutOf (variables : List Variable) (deck : List Stated) (files : Files) (index : ℕ) (statement : Stated) (before : Desked) : Type 0 where
  pub state : State
  pub cut_is : cut variables index deck (start variables files) ≡ Some (statement, state)
  pub same : Same before state
  -- the statement tells the same transfers, and leaves the same output
  pub waited_is : waited_at statement before ≡ waited state statement.0.what
  pub output : (desk_step variables statement before).0.core.output ≡ (step variables statement state).0.output

abbrev pub CutsAgree : Type 0
CutsAgree = (variables : List Variable) (deck : List Stated) (files : Files) (index : ℕ) (statement : Stated) (before : Desked) →
    cut_desks variables index deck (fresh variables files) ≡ Some (statement, before) → IsCutOf variables deck files index statement before
