-- What holds of slots and of the jobs that they serve, in words of their own.
use Rattle.std.specs.Prelude.{◌≡◌, ◌≢◌, ◌⊎◌, ◌↔◌, ℕ, ◌+◌, ◌-◌, ◌^◌, ◌<◌, true, List, ◌++◌, length, take, slice_get, Some, None, IsSome}
use Rattle.fj_outside.specs.declared.errors.Stop.{Stop}
use Rattle.fj_outside.specs.declared.errors.Stop.TheVariants.{Failed}
use Rattle.fj_slot.specs.declared.stop.Halt.{Halt}
use Rattle.fj_slot.specs.Serving.{Meaning}
use Rattle.fj_slot.specs.Ledger.{Ledger, can_begin, can_tell}
use Rattle.fj_slot.specs.Sound.{served_by, outcome, IsCounted, IsSound}

-- Jobs are served in order, each on the engine that those before it left: the first on the starting engine, each further one on
-- what the one before it left; and the outcome of a number is what serving the job of that number gives there.
pub record AreServedInOrder {E J A S T R : Type 0} (m : Meaning E J A S T R) : Type 0 where
  pub first : (s : S) (ts : List T) → served_by m s (take 0 ts) ≡ s
  pub further : (s : S) (ts : List T) (k : ℕ) (t : T) → slice_get ts k ≡ Some t
      → served_by m s (take (k + 1) ts) ≡ (m.serve (served_by m s (take k ts)) t).engine
  pub given : (s : S) (ts : List T) (k : ℕ) (t : T) → slice_get ts k ≡ Some t
      → outcome m s ts k ≡ Some ((m.serve (served_by m s (take k ts)) t).job, (m.serve (served_by m s (take k ts)) t).answer)
  pub none : (s : S) (ts : List T) (k : ℕ) → slice_get ts k ≡ None → outcome m s ts k ≡ None
  -- jobs that follow change no outcome
  pub stays : (s : S) (ts us : List T) (k : ℕ) → k < length ts → outcome m s (ts ++ us) k ≡ outcome m s ts k

-- a job may be begun exactly where the slot has not stopped, its engine is at home and a job was not begun
abbrev pub BeginsExactly : (E J A : Type 0) → Type 0
BeginsExactly E J A = (l : Ledger E J A) → ((can_begin l ≡ true) ↔ ((l.halt ≡ None) × IsSome l.home × (l.done < length l.jobs)))

-- a job may be told exactly where one was not told, and the first such has its answer or the slot has stopped
abbrev pub TellsExactly : {E J A S T R : Type 0} → Meaning E J A S T R → Type 0
TellsExactly {E} {J} {A} m = (l : Ledger E J A) → IsCounted m l
    → ((can_tell l ≡ true) ↔ ((l.told < length l.jobs) × (IsSome l.halt ⊎ IsSome (slice_get l.answers 0))))

-- A stop has a cause: a slot over engines that no stop may leave never stops, and where the engine counts no more faults than
-- the starting one, nothing of the outside failed.
pub record StopsHaveCauses {E J A S T R : Type 0} (m : Meaning E J A S T R) : Type 0 where
  pub left : ((s : S) (t : T) (stop : Stop) (engine : E) → m.spoilt s t stop engine → ⊥) → (s : S) (ts : List T) (l : Ledger E J A) → IsSound m s ts l → l.halt ≡ None
  pub failed : (l : Ledger E J A) (engine : E) (halt : Halt) → IsCounted m l → l.home ≡ Some engine → l.halt ≡ Some halt
      → m.faults engine ≡ m.faults l.start → m.faults engine < 2 ^ 64 - 1 → halt.stop ≢ Failed
