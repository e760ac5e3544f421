-- How many asks a deck may still make: one for each job that is owed, and two for each job that its statements may still give.
use Rattle.std.specs.Prelude.{◌≡◌, ℕ, ◌+◌, ◌-◌, ◌*◌, ◌<◌, ◌≤◌, length, max, None}
use Rattle.std.specs.List.{sum}
use Rattle.fj_outside.specs.declared.outside.FileStore.{Ghosts}
use Rattle.fj_world.specs.declared.ask.Ask.{Ask}
use Rattle.fj_world.specs.declared.ask.Ask.TheVariants as ask
use Rattle.fj_meaning_turns.specs.Few.{most_jobs}
use Rattle.fj_run_statements.specs.Jobs.{jobs_behind}
use Rattle.fj_run_script.specs.declared.hand.Hand.{Hand}
use Rattle.fj_run_script.specs.declared.hand.Hand.TheVariants.{Submitting}
use Rattle.fj_run_script.specs.declared.machine.Machine.{Machine}
use Rattle.fj_run_script.specs.declared.stage.Stage.{Stage}
use Rattle.fj_run_script.specs.declared.stage.Stage.TheVariants as stage
use Rattle.fj_run_script.specs.declared.state.State.{State}
use Rattle.fj_run_script.specs.declared.turned.Turned.{Turned}
use Rattle.fj_run_script.specs.declared.turned.Turned.TheVariants as turned

-- ---- jobs

-- by a statement's stage, where so many units are connected: once halts have ended END closes each, and any other gives two at most
abbrev pub jobs_at : {F : Type 0} → Stage F → ℕ → ℕ
jobs_at stage.Start units = most_jobs
jobs_at (stage.Waiting whose from) units = most_jobs
jobs_at (stage.Resuming slots next condition) units = (length slots - next) + max units 2
jobs_at (stage.Going next number) units = 0
jobs_at (stage.Awaiting slot number next) units = jobs_behind next units
jobs_at (stage.Answered next job answer) units = jobs_behind next units

-- by the statements from one on
abbrev pub jobs_from : ℕ → ℕ → ℕ
jobs_from statements at = (statements - at) * most_jobs

-- by the statement at hand and those behind it
abbrev pub jobs_left : {F : Type 0} {ghosts : Ghosts F} → Machine F ghosts → ℕ
jobs_left m = jobs_at m.state.stage (length m.state.core.units) + jobs_from (length m.deck.statements) (m.at.place + 1)

-- ---- what is given of so many jobs

-- by an ask, where so many are left
abbrev pub Gives : {J : Type 0} → Ask J → ℕ → ℕ → Type 0
Gives (ask.Submit slot job) left jobs = left + 1 ≤ jobs
Gives (ask.Settle slot) left jobs = left ≤ jobs
Gives ask.Finished left jobs = ⊥

-- by a turn
abbrev pub Spends : {F : Type 0} {ghosts : Ghosts F} → ℕ → Turned F → State F ghosts → Type 0
Spends jobs (turned.Pauses a) s = Gives a (jobs_at s.stage (length s.core.units)) jobs
Spends jobs _ s = Unit {0}

-- by a call; also where it finished at a statement
abbrev pub Spent : {F J : Type 0} {ghosts : Ghosts F} → Ask J → ℕ → Machine F ghosts → Type 0
Spent ask.Finished jobs m = m.state.ending ≡ None → m.at.place < length m.deck.statements → jobs_left m ≤ jobs
Spent a jobs m = Gives a (jobs_left m) jobs

abbrev pub IsAlive : {F : Type 0} {ghosts : Ghosts F} → Machine F ghosts → Type 0
IsAlive m = (m.state.ending ≡ None) × (m.at.place < length m.deck.statements)

-- something is asked at a statement alone, and so it finishes at one
abbrev pub Lives : {F J : Type 0} {ghosts : Ghosts F} → Ask J → Machine F ghosts → Machine F ghosts → Type 0
Lives ask.Finished m m' = IsAlive m' → IsAlive m
Lives _ m m' = IsAlive m

-- ---- asks

-- a job that is submitted takes one ask, and its answer one more
abbrev pub asks_for : Hand → ℕ
asks_for (Submitting slot) = 2
asks_for _ = 0

-- as many are left as the deck may still make
abbrev pub HasAsks : {F : Type 0} {ghosts : Ghosts F} → Machine F ghosts → Type 0
HasAsks m = m.state.ending ≡ None → m.at.place < length m.deck.statements → sum m.tally.owed.items + 2 * jobs_left m + asks_for m.tally.hand ≤ m.tally.left
