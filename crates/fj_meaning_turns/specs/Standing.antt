-- The runner served alone: where in a statement it stands, and what it comes to.
use Rattle.std.specs.Prelude.{◌≡◌, ◌⊎◌, ℕ, zero, suc, ◌≤◌, true, List, ◌++◌, map, length, drop, slice_get, get_or, Some, None}
use Rattle.fj_statement.specs.declared.deck.Variable.{Variable}
use Rattle.fj_statement.specs.declared.statement.Statement.TheVariants as statement
use Rattle.fj_statement.specs.declared.statement.Transfer.{Transfer}
use Rattle.fj_slot.specs.Serving.{Meaning}
use Rattle.fj_world.specs.declared.ask.Ask.{Ask}
use Rattle.fj_world.specs.declared.ask.Ask.TheVariants.{Submit, Settle, Finished}
use Rattle.fj_world.specs.Conduct.{Conduct}
use Rattle.fj_world.specs.Plain.{Plain, next, after}
use Rattle.fj_bay.specs.Bay.{Bay}
use Rattle.fj_bay.specs.Jobs.{Job, Answer}
use Rattle.fj_meaning.specs.Statement.{Stated}
use Rattle.fj_meaning.specs.Telling.{tells_id, tell_of, is_asynchronous}
use Rattle.fj_meaning_jobs.specs.Core.{Core, Pending}
use Rattle.fj_meaning_jobs.specs.Desks.{Desk, Outcome, carry}
use Rattle.fj_meaning_jobs.specs.Doing.{Doing, finishes, gives, awaits, Desked}
use Rattle.fj_meaning_turns.specs.Run.{Run}
use Rattle.fj_meaning_turns.specs.Turns.{rule_of}
use Rattle.fj_meaning_turns.specs.Serving.{Shows, run_conduct, desks_of}
use Rattle.fj_meaning_turns.specs.Inside.{waited_at, does, walked, cut_desks}

-- ---- served alone, one state becomes another, and each on the way has a property

-- so many states of a script served alone, from this one on, have the property
abbrev pub Along : {S G J A P T R : Type 0} → (m : Meaning G J A P T R) (c : Conduct S T R) → (Plain P c → Type 0) → ℕ → Plain P c → Type 0
Along m c Q zero x = Unit {0}
Along m c Q (suc n) x = Q x × Along m c Q n (next m c x)

abbrev pub Reaches : {S G J A P T R : Type 0} → (m : Meaning G J A P T R) (c : Conduct S T R) → (Plain P c → Type 0) → Plain P c → Plain P c → Type 0
Reaches m c Q x y = (n : ℕ) × (after m c n x ≡ y) × Along m c Q n x

-- ---- inside a statement

-- this is what is done next: a job given to that slot, the core being this
abbrev pub GivesNext : Doing → ℕ → Job → Core → Type 0
GivesNext (finishes core condition) at task now = ⊥
GivesNext (gives slot job core next) at task now = (slot ≡ at) × (job ≡ task) × (core ≡ now)
GivesNext (awaits slot job core next) at task now = (slot ≡ at) × (job ≡ task) × (core ≡ now)

-- nothing of it is done: it waits for a job of the slot, where a transfer that it tells has one that is not told
pub record Waits (statement : Stated) (before : Desked) (slot : ℕ) (run : Run) (desks : List Desk) : Type 0 where
  pub core : run.core ≡ before.core
  pub desks_are : desks ≡ before.desks
  pub transfer : Pending
  pub at : ℕ
  pub pending : slice_get before.core.book at ≡ Some transfer
  pub place : transfer.slot ≡ slot
  pub tells : tells_id (waited_at statement before) transfer.id ≡ true
  pub untold : get_or run.told slot 0 ≤ transfer.number

-- the transfers that it waits for are told
abbrev pub HasTold : Stated → Desked → Run → Type 0
HasTold statement before run = run.core.tells ≡ before.core.tells ++ map (tell_of statement.0.line) (waited_at statement before)

-- all is told, and it gave so many jobs, that end halts or are its own: it gives the next one
pub record GivesJob (variables : List Variable) (statement : Stated) (before : Desked) (slot : ℕ) (job : Job) (run : Run) (desks : List Desk) : Type 0 where
  pub tells : HasTold statement before run
  pub jobs : ℕ
  pub desks_are : desks ≡ (walked jobs before.desks (does variables statement before)).0
  pub gives : GivesNext (walked jobs before.desks (does variables statement before)).1 slot job run.core

-- all is told; behind so many others it gave its own job, and waits for it
pub record AwaitsJob (variables : List Variable) (statement : Stated) (before : Desked) (slot : ℕ) (run : Run) (desks : List Desk) : Type 0 where
  pub tells : HasTold statement before run
  pub jobs : ℕ
  pub job : Job
  pub onward : Outcome → Doing
  pub awaited : (walked jobs before.desks (does variables statement before)).1 ≡ awaits slot job run.core onward
  pub desks_are : desks ≡ carry (walked jobs before.desks (does variables statement before)).0 slot job

abbrev pub Asks : List Variable → Stated → Desked → Ask Job → Run → List Desk → Type 0
Asks variables statement before (Submit slot job) run desks = GivesJob variables statement before slot job run desks
Asks variables statement before (Settle slot) run desks = Waits statement before slot run desks ⊎ AwaitsJob variables statement before slot run desks
Asks variables statement before Finished run desks = ⊥

-- a READ or WRITE that will be pending awaits no answer: neither of transfers, nor of its own job
abbrev pub PendingAwaitsNothing : Type 0
PendingAwaitsNothing = (variables : List Variable) (st : Stated) (before : Desked) (t : Transfer) (slot : ℕ) (run : Run) (desks : List Desk) →
    st.0.what ≡ statement.Transfer t → is_asynchronous t ≡ true → Asks variables st before (Settle slot) run desks → ⊥

module _ {E J A S : Type 0} (m : Meaning E J A Bay Job Answer) (s : Shows S) where
  -- it counts the jobs that were told, and asks at one of these points
  pub record IsInside (variables : List Variable) (statement : Stated) (before : Desked) (x : Plain Bay (run_conduct s)) : Type 0 where
    pub told : x.script.told ≡ map (λ q. q.told) x.slots
    pub asks : Asks variables statement before x.hand x.script (desks_of m x.slots)

  -- it stands inside a statement of the deck that is not prohibited
  pub record StandsIn (variables : List Variable) (deck : List Stated) (first : Desked) (x : Plain Bay (run_conduct s)) : Type 0 where
    pub index : ℕ
    pub statement : Stated
    pub before : Desked
    pub reached : cut_desks variables index deck first ≡ Some (statement, before)
    pub rest : length x.script.rest ≡ length (drop index deck)
    pub allowed : rule_of variables statement before.core ≡ None
    pub inside : IsInside variables statement before x
