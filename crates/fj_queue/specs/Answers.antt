-- What a settle answers, and what a hand knows that found nothing to begin.
use Rattle.std.specs.Prelude.{◌≡◌, ◌≢◌, ◌⊎◌, ◌+◌, ◌*◌, ◌≤◌, ◌<◌, ℕ, true, List, Some, slice_get}
use Rattle.fj_outside.specs.declared.errors.Stop.{Stop}
use Rattle.fj_outside.specs.declared.errors.Stop.TheVariants.{Failed}
use Rattle.fj_outside.specs.Faults.{Rose}
use Rattle.fj_slot.specs.Serving.{Meaning}
use Rattle.fj_slot.specs.Sound.{IsOutcome}
use Rattle.fj_slot.specs.declared.told.Told.{Told}
use Rattle.fj_slot.specs.declared.told.Told.TheVariants.{Done, Stopped}
use Rattle.fj_queue.specs.declared.view.Agenda.{Agenda}
use Rattle.fj_queue.specs.declared.view.View.{View}
use Rattle.fj_queue.specs.Cell.{code_of}

-- what was seen in a turn shows that there was nothing to begin: a job was out, all were begun, or there was a stop
abbrev pub NothingToBegin : {E T : Type 0} → View E T → Type 0
NothingToBegin v = (n p h : ℕ) × (v.submissions ≡ Some n) × (v.progress ≡ Some p) × (v.stop ≡ Some h) × (((k : ℕ) × (p ≡ 2 * k + 1)) ⊎ ((p ≡ 2 * n) ⊎ (h ≢ 0)))

module _ {E J A S T R : Type 0} (mean : Meaning E J A S T R) where
  -- the stop that the submitter is told, and then knows: it stands at the job that is told or before it
  pub record IsStop (v w : View E T) (job : J) (stop : Stop) (before after : ℕ) : Type 0 where
    pub kind : w.stopped ≡ code_of stop
    pub place : w.stopped_at ≤ v.heard
    -- where each job told before is done, it is the very job that is told
    pub exact : v.answered ≡ true → v.heard ≤ w.stopped_at
    pub rose : stop ≡ Failed → Rose before after
    -- the first count is at least the starting engine's
    pub since : (p : Agenda E T) → v.plan ≡ Some p → mean.faults p.start ≤ before
    -- a job behind the stop comes back as the plan has it
    pub behind : w.stopped_at < v.heard → (p : Agenda E T) (s : S) (ts : List T) → v.plan ≡ Some p → p.jobs ≡ Some ts → mean.state p.start ≡ Some s → (t : T) × (slice_get ts v.heard ≡ Some t) × (mean.task job ≡ Some t)

  -- what the submitter then knows of a stop
  abbrev pub KnowsStop : View E T → View E T → Told E J A S T R → Type 0
  KnowsStop v w (Done job answer) = (w.stopped ≡ v.stopped) × (w.stopped_at ≡ v.stopped_at) × (w.answered ≡ v.answered)
  KnowsStop v w (Stopped job stop before after) = IsStop v w job stop before after

  -- what a settle answers: what becomes of the plan's first job that was not told
  pub record Settles (v w : View E T) (it : Told E J A S T R) : Type 0 where
    pub outcome : (p : Agenda E T) (s : S) (ts : List T) → v.plan ≡ Some p → p.jobs ≡ Some ts → mean.state p.start ≡ Some s → IsOutcome mean s ts v.heard it
    pub stop : KnowsStop v w it
