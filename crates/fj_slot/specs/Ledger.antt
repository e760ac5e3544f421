-- What a slot is seen as, and what its calls change of that.
use Rattle.std.specs.Prelude.{◌≡◌, ℕ, ◌+◌, ◌<◌, ◌≤◌, ◌^◌, Bool, true, ◌&&◌, List, [], ◌∷◌, ◌++◌, length, drop, Option, Some, None, is_some, is_none, nat_lt, if◌then◌else◌}
use Rattle.fj_slot.specs.declared.stop.Halt.{Halt}

pub record Ledger (E J A : Type 0) : Type 0 where
  -- the starting engine
  pub start : E
  -- the jobs, as they were submitted
  pub jobs : List J
  -- the engine, where no job is out
  pub home : Option E
  -- how many jobs are done, and what they gave, from the first on that is not told
  pub done : ℕ
  pub answers : List (J × A)
  -- how many jobs are told
  pub told : ℕ
  -- what the slot was stopped by
  pub halt : Option Halt

-- a new slot over an engine
abbrev pub fresh : {E J A : Type 0} → E → Ledger E J A
fresh engine = record { start = engine; jobs = []; home = Some engine; done = 0; answers = []; told = 0; halt = None }

-- a job is submitted
abbrev pub with_job : {E J A : Type 0} → Ledger E J A → J → Ledger E J A
with_job l job = record l { jobs = l.jobs ++ job ∷ [] }

-- the engine is out
abbrev pub with_out : {E J A : Type 0} → Ledger E J A → Ledger E J A
with_out l = record l { home = None }

-- a job is done
abbrev pub with_answer : {E J A : Type 0} → Ledger E J A → E → J → A → Ledger E J A
with_answer l engine job answer = record l { home = Some engine; done = l.done + 1; answers = l.answers ++ (job, answer) ∷ [] }

-- a job stopped the slot
abbrev pub with_halt : {E J A : Type 0} → Ledger E J A → E → Halt → Ledger E J A
with_halt l engine halt = record l { home = Some engine; halt = Some halt }

-- a job is told
abbrev pub with_tell : {E J A : Type 0} → Ledger E J A → Ledger E J A
with_tell l = record l { answers = drop 1 l.answers; told = l.told + 1 }

-- a job waits, none is out, and the slot has not stopped
abbrev pub can_begin : {E J A : Type 0} → Ledger E J A → Bool
can_begin l = is_none l.halt && (is_some l.home && nat_lt l.done (length l.jobs))

-- a job is not told, and it has its answer or the slot has stopped
abbrev pub can_tell : {E J A : Type 0} → Ledger E J A → Bool
can_tell l = nat_lt l.told (if is_some l.halt then length l.jobs else l.done)

-- what holds of every slot
pub record IsSized {E J A : Type 0} (l : Ledger E J A) : Type 0 where
  pub few : length l.jobs ≤ 2 ^ 62
  pub within : l.done ≤ length l.jobs
  pub away : l.home ≡ None → l.done < length l.jobs
  pub home : is_some l.halt ≡ true → is_some l.home ≡ true
  pub told : l.halt ≡ None → l.told ≤ l.done
