-- What a script asks, over plain data.
use Rattle.std.specs.Prelude.{◌≡◌, ℕ, ◌+◌, ◌-◌, ◌<◌, ◌≤◌, ◌==◌, Bool, true, false, Option, Some, Result, Ok, Err, OnErr, OnOk, IfOk, if◌then◌else◌}
use Rattle.fj_slot.specs.declared.told.Told.{Told}
use Rattle.fj_slot.specs.declared.told.Told.TheVariants.{Done, Stopped}
use Rattle.fj_slot.specs.declared.told.Refused.{Refused}
use Rattle.fj_slot.specs.Serving.{Meaning}
use Rattle.fj_world.specs.declared.ask.Ask.{Ask}
use Rattle.fj_world.specs.declared.ask.Ask.TheVariants.{Submit, Settle, Finished}

-- the ask that is not answered
pub data Due : Type 0 where
  Idle : Due
  Submitting : (slot : ℕ) → Due
  Settling : (slot : ℕ) → Due

-- How a script asks for jobs of which T are the plain ones and R their answers.
pub record Conduct (S T R : Type 0) : Type 1 where
  -- at most how many asks are left, how many slots it uses, and how many submitted jobs of each are not told
  pub left : S → ℕ
  pub uses : S → ℕ
  pub owed : S → ℕ → ℕ
  -- the ask that is not answered
  pub due : S → Due
  -- it is lost, was refused a job or was told a stop
  pub over : S → Bool
  -- it was told a stop, and as plain data is what it was when it asked
  pub stopped : S → Bool
  -- what one call may leave of it, whatever is asked and answered
  pub leads : S → S → Type 0
  -- what it is as plain data, where it tells; what it asks next, and what it is then; what it is after an answer
  pub State : Type 0
  pub state : S → Option State
  pub ask : State → Ask T
  pub asked : State → State
  pub took : State → ℕ → State
  pub told : State → T × R → State

-- the ask is this one over plain data
abbrev pub IsAsk : {G J A P T R : Type 0} → (m : Meaning G J A P T R) → Ask T → Ask J → Type 0
IsAsk m (Submit slot task) (Submit slot' job) = (slot' ≡ slot) × (m.task job ≡ Some task)
IsAsk m (Settle slot) (Settle slot') = slot' ≡ slot
IsAsk m Finished Finished = Unit {0}
IsAsk m Finished _ = ⊥
IsAsk m _ Finished = ⊥
IsAsk m (Submit slot task) (Settle slot') = ⊥
IsAsk m (Settle slot) (Submit slot' job) = ⊥

-- the ask is the one that is due
abbrev pub IsDueAsk : {J : Type 0} → Due → Ask J → Type 0
IsDueAsk due (Submit slot job) = due ≡ Submitting slot
IsDueAsk due (Settle slot) = due ≡ Settling slot
IsDueAsk due Finished = due ≡ Idle

-- the numbers that an ask keeps to
abbrev pub KeepsTo : {S T R J : Type 0} → Conduct S T R → S → Ask J → Type 0
KeepsTo c script (Submit slot job) = (slot < c.uses script) × (0 < c.left script)
KeepsTo c script (Settle slot) = (slot < c.uses script) × (0 < c.left script) × (0 < c.owed script slot)
KeepsTo c script Finished = Unit {0}

-- what one `ask` does
pub record Asks {S G J A P T R : Type 0} (m : Meaning G J A P T R) (c : Conduct S T R) (old : S) (result : Ask J) (new : S) : Type 0 where
  pub due : IsDueAsk (c.due new) result
  pub keeps_to : KeepsTo c new result
  pub left : c.left new ≤ c.left old
  pub uses : c.uses new ≡ c.uses old
  pub owed : (slot : ℕ) → c.owed new slot ≡ c.owed old slot
  -- once over, always over, and then it asks nothing
  pub over : c.over old ≡ true → c.over new ≡ true
  pub ends : c.over new ≡ true → result ≡ Finished
  pub stops : c.stopped new ≡ true → (c.stopped old ≡ true) × (c.state new ≡ c.state old)
  pub leads : c.leads old new
  pub told : (s : c.State) → c.state old ≡ Some s → c.over new ≡ false → (c.state new ≡ Some (c.asked s)) × IsAsk m (c.ask s) result

abbrev pub IsSubmitting : Due → Type 0
IsSubmitting Idle = ⊥
IsSubmitting (Submitting slot) = Unit {0}
IsSubmitting (Settling slot) = ⊥

abbrev pub IsSettling : Due → Type 0
IsSettling Idle = ⊥
IsSettling (Submitting slot) = ⊥
IsSettling (Settling slot) = Unit {0}

abbrev pub owed_after_submit : Due → (ℕ → ℕ) → ℕ → ℕ
owed_after_submit (Submitting slot) owed at = if at == slot then owed at + 1 else owed at
owed_after_submit Idle owed at = owed at
owed_after_submit (Settling slot) owed at = owed at

abbrev pub owed_after_settle : Due → (ℕ → ℕ) → ℕ → ℕ
owed_after_settle (Settling slot) owed at = if at == slot then owed at - 1 else owed at
owed_after_settle Idle owed at = owed at
owed_after_settle (Submitting slot) owed at = owed at

-- a job that was submitted is owed, and one that was refused is not
abbrev pub owed_after_took : {J : Type 0} → Due → Result ℕ (Refused J) → (ℕ → ℕ) → ℕ → ℕ
owed_after_took due (Ok number) owed at = owed_after_submit due owed at
owed_after_took due (Err refused) owed at = owed at

-- what one `took` does
pub record Takes {S T R J : Type 0} (c : Conduct S T R) (old : S) (number : Result ℕ (Refused J)) (new : S) : Type 0 where
  pub due : c.due new ≡ Idle
  pub left : c.left new < c.left old
  pub uses : c.uses new ≡ c.uses old
  pub owed : (slot : ℕ) → c.owed new slot ≡ owed_after_took (c.due old) number (c.owed old) slot
  pub over : c.over old ≡ true → c.over new ≡ true
  -- a refusal makes it over, and a job that was submitted does not
  pub refused : OnErr number (c.over new ≡ true)
  pub goes : OnOk number (c.over new ≡ c.over old)
  pub stops : c.stopped new ≡ true → c.stopped old ≡ true
  pub leads : c.leads old new
  pub took : (s : c.State) → c.state old ≡ Some s → c.over new ≡ false → IfOk number (λ n. c.state new ≡ Some (c.took s n))

-- the answer of a job, over plain data
abbrev pub IsAnswer : {G J A P T R : Type 0} → (m : Meaning G J A P T R) → Told G J A P T R → T × R → Type 0
IsAnswer m (Done job answer) it = (m.task job ≡ Some it.0) × (m.reply answer ≡ it.1)
IsAnswer m (Stopped job stop before after) it = ⊥

abbrev pub is_done : {G J A P T R : Type 0} → Told G J A P T R → Bool
is_done (Done job answer) = true
is_done (Stopped job stop before after) = false

-- what one `told` does
pub record Tells {S G J A P T R : Type 0} (m : Meaning G J A P T R) (c : Conduct S T R) (old : S) (it : Told G J A P T R) (new : S) : Type 0 where
  pub due : c.due new ≡ Idle
  pub left : c.left new < c.left old
  pub uses : c.uses new ≡ c.uses old
  pub owed : (slot : ℕ) → c.owed new slot ≡ owed_after_settle (c.due old) (c.owed old) slot
  pub over : c.over old ≡ true → c.over new ≡ true
  pub stopped : is_done it ≡ false → c.over new ≡ true
  pub stops : c.stopped new ≡ true → (is_done it ≡ false) × (c.state new ≡ c.state old)
  -- a stop is kept
  pub keeps : is_done it ≡ false → c.stopped new ≡ true
  pub leads : c.leads old new
  pub told : (s : c.State) (reply : T × R) → c.state old ≡ Some s → c.over new ≡ false → IsAnswer m it reply → c.state new ≡ Some (c.told s reply)
