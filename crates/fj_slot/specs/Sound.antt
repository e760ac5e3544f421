-- When a slot is sound: what it holds is what serving its jobs in order gives.
use Rattle.std.specs.Prelude.{◌≡◌, ℕ, ◌-◌, ◌<◌, ◌≤◌, true, List, [], ◌∷◌, ◌++◌, length, map, take, drop, slice_get, Option, Some, None, IsSome, IfSome, is_some, if◌then◌else◌, Result}
use Rattle.fj_outside.specs.Faults.{Rose}
use Rattle.fj_outside.specs.declared.errors.Stop.{Stop}
use Rattle.fj_outside.specs.declared.errors.Stop.TheVariants.{Failed}
use Rattle.fj_slot.specs.declared.told.Told.{Told}
use Rattle.fj_slot.specs.declared.told.Told.TheVariants.{Done, Stopped}
use Rattle.fj_slot.specs.Serving.{Meaning, Serves}
use Rattle.fj_slot.specs.Ledger.{Ledger}

-- the engine after these jobs
abbrev pub served_by : {E J A S T R : Type 0} → (m : Meaning E J A S T R) → S → List T → S
served_by m s [] = s
served_by m s (t ∷ ts) = served_by m (m.serve s t).engine ts

-- what serving each of these jobs leaves of it, and its answer
abbrev pub outcomes : {E J A S T R : Type 0} → (m : Meaning E J A S T R) → S → List T → List (T × R)
outcomes m s [] = []
outcomes m s (t ∷ ts) = ((m.serve s t).job, (m.serve s t).answer) ∷ outcomes m (m.serve s t).engine ts

-- the job of that number and its answer, after the jobs before it were served in order
abbrev pub outcome : {E J A S T R : Type 0} → (m : Meaning E J A S T R) → S → List T → ℕ → Option (T × R)
outcome m s ts k = slice_get (outcomes m s ts) k

-- a job that is done and its answer, as far as they tell
abbrev pub shown : {E J A S T R : Type 0} → (m : Meaning E J A S T R) → J × A → Option T × R
shown m it = (m.task it.0, m.reply it.1)

abbrev pub as_told : {T R : Type 0} → T × R → Option T × R
as_told it = (Some it.0, it.1)

-- What holds of a slot also where its engine does not tell: the jobs that are done and that are told are the first ones,
-- and no count of faults has fallen.
pub record IsCounted {E J A S T R : Type 0} (m : Meaning E J A S T R) (l : Ledger E J A) : Type 0 where
  pub within : l.done ≤ length l.jobs
  -- a job that is out is the first that is not done
  pub away : l.home ≡ None → l.done < length l.jobs
  pub told : l.told ≤ (if is_some l.halt then length l.jobs else l.done)
  -- an answer is kept until it is told
  pub kept : length l.answers ≡ l.done - l.told
  -- the engine at home counts no fewer faults than the starting one
  pub count : IfSome l.home (λ e. m.faults l.start ≤ m.faults e)
  -- after a stop no job is out, and the first job that is not done is the one that stopped
  pub at_home : is_some l.halt ≡ true → is_some l.home ≡ true
  pub below : is_some l.halt ≡ true → l.done < length l.jobs
  -- the two counts of a stop: at least the starting engine's, risen where the outside failed, and at most that of the engine at home
  pub since : IfSome l.halt (λ h. m.faults l.start ≤ h.before)
  pub rose : IfSome l.halt (λ h. (h.before ≤ h.after) × (h.stop ≡ Failed → Rose h.before h.after))
  pub until : IfSome l.halt (λ h. IfSome l.home (λ e. h.after ≤ m.faults e))

-- The slot began with the engine s and was given the jobs ts, all of which tell, and holds what serving them in order gives.
pub record IsSound {E J A S T R : Type 0} (m : Meaning E J A S T R) (s : S) (ts : List T) (l : Ledger E J A) : Type 0 where
  pub start : m.state l.start ≡ Some s
  pub jobs : map m.task l.jobs ≡ map Some ts
  pub counted : IsCounted m l
  -- each answer is the outcome of its number
  pub answers : map (shown m) l.answers ≡ map as_told (drop l.told (outcomes m s (take l.done ts)))
  -- the engine at home is the starting one after the jobs done
  pub home : l.halt ≡ None → IfSome l.home (λ e. m.state e ≡ Some (served_by m s (take l.done ts)))
  -- after a stop it tells, and is one that the job that stopped may leave
  pub tells : IfSome l.halt (λ h. IfSome l.home (λ e. IsSome (m.state e)))
  pub spoilt : IfSome l.halt (λ h. IfSome l.home (λ e. IfSome (slice_get ts l.done) (λ t. m.spoilt (served_by m s (take l.done ts)) t h.stop e)))

-- sound for a plan: for the first jobs of it
pub record IsSoundFor {E J A S T R : Type 0} (m : Meaning E J A S T R) (s : S) (plan : List T) (l : Ledger E J A) : Type 0 where
  pub within : length l.jobs ≤ length plan
  pub sound : IsSound m s (take (length l.jobs) plan) l

-- the engine and the job that are due at that number
pub record IsDue {E J A S T R : Type 0} (m : Meaning E J A S T R) (s : S) (ts : List T) (l : Ledger E J A) (number : ℕ) (handed : E) (due : J) : Type 0 where
  pub engine : m.state handed ≡ Some (served_by m s (take number ts))
  pub task : T
  pub at : slice_get ts number ≡ Some task
  pub job : m.task due ≡ Some task
  pub count : m.faults l.start ≤ m.faults handed

-- A job whose number is at most k may stop so after the jobs before it: it leaves an engine that tells, and the counts are
-- risen where the outside failed, and at most that engine's.
pub record MayStop {E J A S T R : Type 0} (m : Meaning E J A S T R) (s : S) (ts : List T) (k : ℕ) (stop : Stop) (before after : ℕ) : Type 0 where
  pub number : ℕ
  pub reached : number ≤ k
  pub task : T
  pub at : slice_get ts number ≡ Some task
  pub engine : E
  pub tells : IsSome (m.state engine)
  pub spoilt : m.spoilt (served_by m s (take number ts)) task stop engine
  pub rose : (before ≤ after) × (stop ≡ Failed → Rose before after)
  pub until : after ≤ m.faults engine

module _ {E J A S T R : Type 0} (m : Meaning E J A S T R) where
  -- what is told is the outcome of its number, or a stop that the job or one before it may meet
  abbrev pub IsOutcome : S → List T → ℕ → Told E J A S T R → Type 0
  IsOutcome s ts k (Done job answer) = ((t : T) × (m.task job ≡ Some t) × (outcome m s ts k ≡ Some (t, m.reply answer)))
  IsOutcome s ts k (Stopped job stop before after) = MayStop m s ts k stop before after

  -- what was counted is counted
  abbrev pub KeepsCounted : Ledger E J A → Ledger E J A → Type 0
  KeepsCounted old new = IsCounted m old → IsCounted m new

  -- what was sound is sound
  abbrev pub KeepsSound : Ledger E J A → Ledger E J A → Type 0
  KeepsSound old new = (s : S) (ts : List T) → IsSound m s ts old → IsSound m s ts new

  -- what was sound is sound with one more job, which tells
  abbrev pub KeepsSoundWith : J → Ledger E J A → Ledger E J A → Type 0
  KeepsSoundWith job old new = (s : S) (ts : List T) (t : T) → IsSound m s ts old → m.task job ≡ Some t → IsSound m s (ts ++ t ∷ []) new

  -- what was sound is sound, where this is what performing the job that was out left of it and of the engine
  abbrev pub KeepsSoundAfter : E → J → Result A Stop → ℕ → Ledger E J A → Ledger E J A → Type 0
  KeepsSoundAfter engine job got before old new = (s : S) (ts : List T) (t : T) → IsSound m s ts old → slice_get ts old.done ≡ Some t
      → Serves m (served_by m s (take old.done ts)) t got engine job → m.faults old.start ≤ before → IsSound m s ts new

  -- what is handed out is what is due
  abbrev pub HandsOutDue : Ledger E J A → ℕ → E → J → Type 0
  HandsOutDue l number engine job = (s : S) (ts : List T) → IsSound m s ts l → IsDue m s ts l number engine job

  -- what is told is the outcome of the next number
  abbrev pub TellsOutcome : Ledger E J A → Told E J A S T R → Type 0
  TellsOutcome l it = (s : S) (ts : List T) → IsSound m s ts l → IsOutcome s ts l.told it
