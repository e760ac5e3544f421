-- A deck was executed: what the runner and real slots came to is what the execution over desks came to.
use Rattle.std.specs.Prelude.{◌≡◌, ℕ, false, List, Some, slice_get}
use Rattle.fj_statement.specs.declared.deck.Variable.{Variable}
use Rattle.fj_slot.specs.Ledger.{Ledger}
use Rattle.fj_slot.specs.Serving.{Meaning}
use Rattle.fj_slot.specs.Sound.{IsSound}
use Rattle.fj_world.specs.Alone.{ServedAlone}
use Rattle.fj_world.specs.Plain.{PlainSlot}
use Rattle.fj_world.specs.Rack.{Rack}
use Rattle.fj_bay.specs.Bay.{Bay}
use Rattle.fj_bay.specs.Jobs.{Job, Answer}
use Rattle.fj_meaning.specs.State.{Files}
use Rattle.fj_meaning.specs.Statement.{Stated}
use Rattle.fj_meaning_jobs.specs.Desks.{Desk}
use Rattle.fj_meaning_jobs.specs.Desking.{DesksRan, over_desks, fresh}
use Rattle.fj_meaning_turns.specs.Run.{Run}
use Rattle.fj_meaning_turns.specs.Serving.{over_bays, Shows, run_conduct, desk_of, begins}

module _ {E J A : Type 0} (m : Meaning E J A Bay Job Answer) where
  -- The slot is sound for jobs that, carried out, leave the desk's bay and give its log. So once its jobs are done the engine at home is
  -- that bay, and each answer that it may still tell is that of the log.
  pub record HoldsDesk (l : Ledger E J A) (d : Desk) : Type 0 where
    pub jobs : PlainSlot Bay Job
    pub sound : IsSound (over_bays m) jobs.start jobs.jobs l
    pub desk : d ≡ desk_of m jobs

  -- the slots hold these desks, one by one
  abbrev pub HoldsDesks : Rack E J A → List Desk → Type 0
  HoldsDesks rack desks = (at : ℕ) (l : Ledger E J A) (d : Desk) → slice_get rack.slots at ≡ Some l → slice_get desks at ≡ Some d → HoldsDesk l d

  -- variables, pending transfers, units, files, output, tells and the ending are those of the execution
  pub record CameTo (ran : DesksRan) (run : Run) (rack : Rack E J A) : Type 0 where
    pub core : run.core ≡ ran.desked.core
    pub ending : run.ending ≡ ran.ending
    pub desks : HoldsDesks rack ran.desked.desks

module _ {E J A S : Type 0} (m : Meaning E J A Bay Job Answer) (s : Shows S) where
  -- for every deck: a script that was served alone and is not over
  abbrev pub ExecutesDecks : Type 0
  ExecutesDecks = (variables : List Variable) (deck : List Stated) (files : Files) (script : S) (rack : Rack E J A) (run : Run) →
      ServedAlone (over_bays m) (run_conduct s) (begins m s variables deck files) script rack → s.over script ≡ false → s.state script ≡ Some run →
      CameTo m (over_desks variables deck (fresh variables files)) run rack
