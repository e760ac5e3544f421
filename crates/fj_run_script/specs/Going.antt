-- What a run keeps as long as it is not given up.
use Rattle.std.specs.Prelude.{◌≡◌, ℕ, ◌+◌, ◌<◌, ◌≤◌, ◌==◌, ◌^◌, true, List, ◌∷◌, None, IsSome, get_or, if◌then◌else◌}
use Rattle.fj_outside.specs.declared.outside.FileStore.{Ghosts}
use Rattle.fj_statement.specs.Sound.{IsSound}
use Rattle.fj_statement.specs.declared.statement.Statement.{Statement}
use Rattle.fj_meaning.specs.Statement.{Stated}
use Rattle.fj_meaning_jobs.specs.Core.{Connected}
use Rattle.fj_meaning_jobs.specs.Desks.{most_slots}
use Rattle.fj_run_units.specs.Having.{HaveFiles}
use Rattle.fj_world.specs.declared.ask.Ask.{Ask}
use Rattle.fj_world.specs.declared.ask.Ask.TheVariants as ask
use Rattle.fj_run_statements.specs.Fitting.{IsKept}
use Rattle.fj_bay.specs.declared.job.Job.{Job}
use Rattle.fj_run_statements.specs.Having.{HaveBeside, HaveThen, name_brought}
use Rattle.fj_run_script.specs.Machine.{rest_of}
use Rattle.fj_run_script.specs.Passing.{is_waiting}
use Rattle.fj_run_script.specs.Spending.{HasAsks, jobs_at}
use Rattle.fj_run_script.specs.declared.hand.Hand.{Hand}
use Rattle.fj_run_script.specs.declared.hand.Hand.TheVariants.{Idle, Submitting, Settling}
use Rattle.fj_run_script.specs.declared.machine.Machine.{Machine}
use Rattle.fj_run_script.specs.declared.stage.Stage.{Stage}
use Rattle.fj_run_script.specs.declared.stage.Stage.TheVariants as stage
use Rattle.fj_run_script.specs.declared.state.State.{State}
use Rattle.fj_run_script.specs.declared.turned.Turned.{Turned}
use Rattle.fj_run_script.specs.declared.turned.Turned.TheVariants as turned

-- ---- units and the files that are out

-- by the stage of the statement
abbrev pub HaveAt : {F : Type 0} → Stage F → List (List ℕ) → List Connected → Statement → Type 0
HaveAt (stage.Awaiting slot number next) names us what = HaveThen next names us what
HaveAt (stage.Answered next job answer) names us what = HaveThen next names us what
HaveAt _ names us what = HaveFiles names us

-- while a job is asked for
abbrev pub HaveAsked : {F : Type 0} → Ask (Job F) → List (List ℕ) → List Connected → Statement → Type 0
HaveAsked (ask.Submit slot job) names us what = HaveBeside (name_brought job) names us what
HaveAsked (ask.Settle slot) names us what = Unit {0}
HaveAsked ask.Finished names us what = Unit {0}

-- by what its turn comes to
abbrev pub HaveTurned : {F : Type 0} {ghosts : Ghosts F} → Turned F → State F ghosts → Statement → Type 0
HaveTurned (turned.Pauses a) s what = HaveAt s.stage s.core.names s.core.units what × HaveAsked a s.core.names s.core.units what
HaveTurned _ s what = (s.stage ≡ stage.Start) × HaveFiles s.core.names s.core.units

-- ---- identifiers, and numbers of jobs

-- by slot, with one more of this one
abbrev pub IsMore : ℕ → List ℕ → List ℕ → Type 0
IsMore slot counts counts' = (at : ℕ) → get_or counts' at 0 ≡ (if at == slot then get_or counts at 0 + 1 else get_or counts at 0)

-- a job that is submitted was given
abbrev pub SentFor : {J : Type 0} → Ask J → List ℕ → List ℕ → Type 0
SentFor (ask.Submit slot job) sent sent' = IsMore slot sent sent'
SentFor _ sent sent' = sent' ≡ sent

-- The answer of this slot is awaited: it was given a job that is not told.
pub record Awaits {F : Type 0} {ghosts : Ghosts F} (slot : ℕ) (s : State F ghosts) : Type 0 where
  pub inside : slot < most_slots
  pub due : s.due ≡ slot
  pub owed : get_or s.told.items slot 0 < get_or s.sent.items slot 0
  pub waits : is_waiting s.stage ≡ true

-- jobs are given to slots that there are, and answers awaited of jobs that were given
abbrev pub KeepsToSlots : {F J : Type 0} {ghosts : Ghosts F} → Ask J → State F ghosts → Type 0
KeepsToSlots (ask.Submit slot job) s = slot < most_slots
KeepsToSlots (ask.Settle slot) s = Awaits slot s
KeepsToSlots ask.Finished s = Unit {0}

-- Where a turn does not pause it makes one transfer pending at most, and gives no job.
abbrev pub Counts : {F : Type 0} {ghosts : Ghosts F} → Turned F → State F ghosts → State F ghosts → Type 0
Counts (turned.Pauses ask) s s' = (s'.core.next ≡ s.core.next) × SentFor ask s.sent.items s'.sent.items × (s'.ending ≡ s.ending) × KeepsToSlots ask s'
Counts turned.Passes s s' = (s'.core.next ≤ s.core.next + 1) × (s'.sent ≡ s.sent) × (s'.ending ≡ s.ending)
Counts turned.Stops s s' = (s'.sent ≡ s.sent) × IsSome s'.ending

abbrev pub DoesNotPause : {F : Type 0} → Turned F → Type 0
DoesNotPause (turned.Pauses ask) = ⊥
DoesNotPause _ = Unit {0}

-- a job that was asked for is counted before it is taken
abbrev pub asked_for : Hand → ℕ
asked_for Idle = 0
asked_for _ = 1

-- jobs of each slot can be counted, for so many asks more
abbrev pub CanCount : List ℕ → ℕ → ℕ → Type 0
CanCount counts left ahead = (slot : ℕ) → get_or counts slot 0 + left < 2 ^ 63 + ahead

-- what an answer leaves of a state
pub record Hears {F : Type 0} {ghosts : Ghosts F} (s s' : State F ghosts) : Type 0 where
  pub files : (what : Statement) → HaveAt s.stage s.core.names s.core.units what → HaveAt s'.stage s'.core.names s'.core.units what
  pub next : s'.core.next ≡ s.core.next
  pub ending : s'.ending ≡ s.ending
  pub sent : s'.sent ≡ s.sent
  pub output : s'.core.output ≡ s.core.output
  pub units : s'.core.units ≡ s.core.units
  pub jobs : (units : ℕ) → jobs_at s'.stage units ≡ jobs_at s.stage units
  -- one more was told
  pub told : IsMore s.due s.told.items s'.told.items

-- a job that was asked for is given before it is taken
abbrev pub given_ahead : Hand → ℕ → ℕ
given_ahead (Submitting slot) at = if at == slot then 1 else 0
given_ahead _ at = 0

-- by slot, the jobs that are owed are those that were given and are not told
abbrev pub OwesAsGiven : Hand → List ℕ → List ℕ → List ℕ → Type 0
OwesAsGiven hand owed sent told = (slot : ℕ) → get_or owed slot 0 + get_or told slot 0 + given_ahead hand slot ≡ get_or sent slot 0

-- where the answer of a slot is at hand, it is awaited
abbrev pub AwaitsAtHand : {F : Type 0} {ghosts : Ghosts F} → Hand → State F ghosts → Type 0
AwaitsAtHand (Settling slot) s = Awaits slot s
AwaitsAtHand _ s = Unit {0}

-- ---- a run

-- At a statement: the units have the files that are out, each statement behind had one identifier at most, and the record of
-- `*` is within its limit.
pub record IsAt {F : Type 0} {ghosts : Ghosts F} (m : Machine F ghosts) : Type 0 where
  pub files : (st : Stated) (more : List Stated) → rest_of m ≡ st ∷ more → HaveAt m.state.stage m.state.core.names m.state.core.units st.0.what
  pub few : m.state.ending ≡ None → m.state.core.next ≤ m.at.place + 1
  pub kept : IsKept m.state.core

-- what follows from a turn of the statement at hand that brought the state here
abbrev pub FromTurn : {F : Type 0} {ghosts : Ghosts F} → Machine F ghosts → Turned F → Type 0 → Type 0
FromTurn {F} {ghosts} m t P = (s : State F ghosts) (st : Stated) (more : List Stated) → rest_of m ≡ st ∷ more → HaveTurned t m.state st.0.what → Counts t s m.state
    → (s.ending ≡ None → s.core.next ≤ m.at.place + 1) → IsKept m.state.core → P

-- from where it began, and what it counts
abbrev pub SinceTurn : {F : Type 0} {ghosts : Ghosts F} → Machine F ghosts → Turned F → (State F ghosts → Type 0) → Type 0
SinceTurn {F} {ghosts} m t P = (s : State F ghosts) → Counts t s m.state → P s

-- The deck is sound, jobs that are given and told can be counted for so many asks as are left, those that are owed are known, and as
-- many asks are left as the deck may still make.
pub record IsGoing {F : Type 0} {ghosts : Ghosts F} (m : Machine F ghosts) : Type 0 where
  pub sound : IsSound m.deck
  pub at : IsAt m
  pub sent : CanCount m.state.sent.items m.tally.left (asked_for m.tally.hand)
  pub told : CanCount m.state.told.items m.tally.left 0
  pub owes : OwesAsGiven m.tally.hand m.tally.owed.items m.state.sent.items m.state.told.items
  pub awaited : AwaitsAtHand m.tally.hand m.state
  pub asks : HasAsks m
