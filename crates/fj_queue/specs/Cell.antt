-- What the words of the table count of a slot, and when a slot is sound for a plan.
use Rattle.std.specs.Prelude.{◌≡◌, ℕ, ◌+◌, ◌*◌, ◌≤◌, List, length, take, slice_get, Option, Some, None}
use Rattle.fj_outside.specs.declared.errors.Stop.{Stop}
use Rattle.fj_outside.specs.declared.errors.Stop.TheVariants.{Failed, Memory}
use Rattle.fj_slot.specs.declared.stop.Halt.{Halt}
use Rattle.fj_slot.specs.Ledger.{Ledger}
use Rattle.fj_slot.specs.Serving.{Meaning}
use Rattle.fj_slot.specs.Sound.{IsCounted, IsSoundFor, served_by}
use Rattle.fj_queue.specs.declared.view.Agenda.{Agenda}

-- 1 where the engine is out, and where there is a stop
abbrev pub out_of : {E : Type 0} → Option E → ℕ
out_of None = 1
out_of (Some e) = 0

abbrev pub stops_of : Option Halt → ℕ
stops_of None = 0
stops_of (Some h) = 1

-- the word for a stop
abbrev pub code_of : Stop → ℕ
code_of Failed = 1
code_of (Memory e) = 2

abbrev pub stop_code : Option Halt → ℕ
stop_code None = 0
stop_code (Some h) = code_of h.stop

module _ {E J A : Type 0} where
  abbrev pub submitted : Ledger E J A → ℕ
  submitted c = length c.jobs

  abbrev pub told : Ledger E J A → ℕ
  told c = c.told

  -- the number of jobs begun plus the number ended
  abbrev pub progress : Ledger E J A → ℕ
  progress c = 2 * (c.done + stops_of c.halt) + out_of c.home

module _ {E J A S T R : Type 0} (m : Meaning E J A S T R) where
  -- Where a plan is named, the slot began with its engine, and is counted; where the plan has the jobs and the engine tells, the
  -- slot is sound for them.
  abbrev pub IsFor : Option (Agenda E T) → Ledger E J A → Type 0
  IsFor q l = (p : Agenda E T) → q ≡ Some p
      → (l.start ≡ p.start) × ((s : S) (ts : List T) → p.jobs ≡ Some ts → m.state p.start ≡ Some s → IsSoundFor m s ts l) × IsCounted m l

  -- the engine and the job are what the job k of these is performed with
  pub record IsDueAt (s : S) (ts : List T) (k : ℕ) (handed : E) (due : J) : Type 0 where
    pub engine : m.state handed ≡ Some (served_by m s (take k ts))
    pub task : T
    pub at : slice_get ts k ≡ Some task
    pub job : m.task due ≡ Some task

  -- where a plan was named, its job k is performed with this engine, which counts no fewer faults than the plan's
  abbrev pub IsDueFor : Option (Agenda E T) → ℕ → E → J → Type 0
  IsDueFor q k e j = (p : Agenda E T) → q ≡ Some p
      → (m.faults p.start ≤ m.faults e) × ((s : S) (ts : List T) → p.jobs ≡ Some ts → m.state p.start ≡ Some s → IsDueAt s ts k e j)

  -- the plan's job k, where one is named with its jobs
  abbrev pub IsNext : Option (Agenda E T) → ℕ → J → Type 0
  IsNext q k job = (p : Agenda E T) (ts : List T) → q ≡ Some p → p.jobs ≡ Some ts → (t : T) × (slice_get ts k ≡ Some t) × (m.task job ≡ Some t)
