-- What is known where a script is told a stop: the execution is cut just before a statement.
use Rattle.std.specs.Prelude.{◌≡◌, ◌⊎◌, ℕ, true, List, take, length, drop, get_or, Some, None, is_some, slice_get}
use Rattle.fj_statement.specs.declared.deck.Variable.{Variable}
use Rattle.fj_slot.specs.Ledger.{Ledger}
use Rattle.fj_slot.specs.Serving.{Meaning}
use Rattle.fj_world.specs.declared.ask.Ask.TheVariants.{Settle, Finished}
use Rattle.fj_world.specs.Fits.{Fits}
use Rattle.fj_world.specs.Plain.{Plain, after}
use Rattle.fj_world.specs.Rack.{Rack}
use Rattle.fj_world.specs.Scene.{Scene}
use Rattle.fj_bay.specs.Bay.{Bay}
use Rattle.fj_bay.specs.Jobs.{Job, Answer}
use Rattle.fj_meaning.specs.State.{Files}
use Rattle.fj_meaning.specs.Statement.{Stated}
use Rattle.fj_meaning_jobs.specs.Desks.{Desk}
use Rattle.fj_meaning_jobs.specs.Doing.{Desked}
use Rattle.fj_meaning_jobs.specs.Desking.{desk_step, fresh}
use Rattle.fj_meaning_jobs.specs.Giving.{carry_all}
use Rattle.fj_meaning_turns.specs.Run.{Run}
use Rattle.fj_meaning_turns.specs.Turns.{rule_of}
use Rattle.fj_meaning_turns.specs.Serving.{over_bays, Shows, run_conduct, desks_of, begins}
use Rattle.fj_meaning_turns.specs.Inside.{jobs_of, cut_desks}
use Rattle.fj_meaning_turns.specs.Standing.{Waits, AwaitsJob, StandsIn}
use Rattle.fj_meaning_turns.specs.Executing.{HoldsDesks}

-- A stop of that slot is learnt at a statement, the execution being cut just before it. Either the statement waits for a transfer whose
-- job is at that slot, and nothing of it was done: variables, files and tells are those of the cut. Or its transfers are told, and its
-- own job is at that slot. The slots have the jobs of the statements before it, and then the first ones of its own.
pub record StopAt (variables : List Variable) (deck : List Stated) (first : Desked) (slot : ℕ) (run : Run) (desks : List Desk) : Type 0 where
  pub index : ℕ
  pub statement : Stated
  pub before : Desked
  pub reached : cut_desks variables index deck first ≡ Some (statement, before)
  pub rest : length run.rest ≡ length (drop index deck)
  pub allowed : rule_of variables statement before.core ≡ None
  pub learnt : Waits statement before slot run desks ⊎ AwaitsJob variables statement before slot run desks
  pub jobs : ℕ
  pub so_far : desks ≡ carry_all before.desks (take jobs (jobs_of variables statement before))
  pub whole : (desk_step variables statement before).0.desks ≡ carry_all before.desks (jobs_of variables statement before)

module _ {E J A S : Type 0} (m : Meaning E J A Bay Job Answer) (s : Shows S) where
  -- what so many entries of the runner served alone come to
  abbrev pub stands : List Variable → List Stated → Files → ℕ → Plain Bay (run_conduct s)
  stands variables deck files n = after (over_bays m) (run_conduct s) n (begins m s variables deck files)

  -- after any number of entries it has finished, or stands inside a statement
  abbrev pub EachEntry : Type 0
  EachEntry = (variables : List Variable) (deck : List Stated) (files : Files) (n : ℕ) →
      ((stands variables deck files n).hand ≡ Finished) ⊎ StandsIn m s variables deck (fresh variables files) (stands variables deck files n)

  -- a world that fits after so many entries, where an answer of that slot is awaited
  pub record IsCut (variables : List Variable) (deck : List Stated) (files : Files) (slot : ℕ) (x : Plain Bay (run_conduct s)) (w : Scene S E J A Bay Job Answer) : Type 0 where
    pub stop : StopAt variables deck (fresh variables files) slot x.script (desks_of m x.slots)
    pub held : HoldsDesks m w.rack (desks_of m x.slots)

  abbrev pub CutAtStop : Type 0
  CutAtStop = (variables : List Variable) (deck : List Stated) (files : Files) (n slot : ℕ) (w : Scene S E J A Bay Job Answer) →
      Fits (over_bays m) (run_conduct s) (stands variables deck files n) w → (stands variables deck files n).hand ≡ Settle slot →
      IsCut variables deck files slot (stands variables deck files n) w

  -- A run that was told a stop is cut: the slots hold desks, and where the stop was learnt the slot has stopped, at the first of its
  -- jobs that was not told.
  pub record IsCutRun (variables : List Variable) (deck : List Stated) (files : Files) (run : Run) (rack : Rack E J A) : Type 0 where
    pub slot : ℕ
    pub desks : List Desk
    pub stop : StopAt variables deck (fresh variables files) slot run desks
    pub held : HoldsDesks m rack desks
    pub halted : (l : Ledger E J A) → slice_get rack.slots slot ≡ Some l → (is_some l.halt ≡ true) × (l.done ≡ get_or run.told slot 0)

  -- any world that fits after some entries and whose script was told a stop, whatever the order of its events was
  abbrev pub WorldIsCut : Type 0
  WorldIsCut = (variables : List Variable) (deck : List Stated) (files : Files) (n : ℕ) (w : Scene S E J A Bay Job Answer) (run : Run) →
      Fits (over_bays m) (run_conduct s) (stands variables deck files n) w → s.stopped w.script ≡ true → s.state w.script ≡ Some run →
      IsCutRun variables deck files run w.rack
