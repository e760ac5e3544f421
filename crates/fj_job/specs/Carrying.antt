-- A deck that is carried out on its slots.
use Rattle.std.specs.Prelude.{◌≡◌, ◌⊎◌, ◌↔◌, ◌^◌, ◌<◌, ◌≤◌, ℕ, Bool, false, List, [], replicate, length, All, Some, None, IsSome, is_some, drop, true}
use Rattle.fj_outside.specs.Faults.{Rose}
use Rattle.fj_statement.specs.declared.deck.Deck.{Deck}
use Rattle.fj_slot.specs.Ledger.{Ledger}
use Rattle.fj_slot.specs.Serving.{Meaning}
use Rattle.fj_slot.specs.Sound.{IsSound}
use Rattle.fj_bay.specs.Bay.{Bay}
use Rattle.fj_bay.specs.Jobs.{Job, Answer}
use Rattle.fj_meaning.specs.State.{Files}
use Rattle.fj_meaning.specs.Statement.{stated}
use Rattle.fj_world.specs.Rack.{Rack}
use Rattle.fj_meaning_cut.specs.Stopping.{HoldsGiven}
use Rattle.fj_meaning_turns.specs.Run.{Run, Start}
use Rattle.fj_meaning_turns.specs.Meant.{Leaves}
use Rattle.fj_meaning_turns.specs.Serving.{first_run}
use Rattle.fj_outside.specs.declared.outside.FileStore.{Ghosts}
use Rattle.fj_run_items.specs.Handing.{HandsOver}
use Rattle.fj_run_items.specs.declared.lost.Lost.TheVariants.{Disk, Sink}
use Rattle.fj_run_end.specs.Holding.{HoldUnits}
use Rattle.fj_run_script.specs.Going.{IsGoing}
use Rattle.fj_run_script.specs.Machine.{run_of}
use Rattle.fj_run_script.specs.Taking.{TakesMore}
use Rattle.fj_run_script.specs.declared.hand.Hand.TheVariants.{Idle}
use Rattle.fj_run_script.specs.declared.machine.Machine.{Machine}

-- a slot to which no job was given, over a bay with nothing
pub record IsFresh {E J A : Type 0} (m : Meaning E J A Bay Job Answer) (l : Ledger E J A) : Type 0 where
  pub jobs : l.jobs ≡ []
  pub told : l.told ≡ 0
  pub home : is_some l.home ≡ true
  pub sound : IsSound m (record { connection = None; halt = None }) [] l

-- sixteen of them
pub record AreFresh {E J A : Type 0} (m : Meaning E J A Bay Job Answer) (ls : List (Ledger E J A)) : Type 0 where
  pub each : All (IsFresh m) ls
  pub sixteen : length ls ≡ 16

-- nothing of the deck was done
pub record HasNotBegun {F : Type 0} {ghosts : Ghosts F} (told : F → Bool) (bytes : F → List ℕ) (m : Machine F ghosts) : Type 0 where
  pub run : (files : Files) → run_of told bytes files m ≡ Some (first_run m.deck.variables (stated m.deck.statements) files)
  pub idle : m.tally.hand ≡ Idle
  pub going : m.tally.over ≡ false
  pub running : m.tally.stopped ≡ false
  pub sound : m.tally.lost ≡ None
  pub few : m.tally.left < 2 ^ 62
  pub owed : m.tally.owed.items ≡ replicate 16 0
  pub names : m.state.core.names ≡ []
  pub on : IsGoing m

-- What calls of a runner leave, and looks between them: it is what one call leaves, but for the deck and the looks.
pub record LeavesButDeck {W D F : Type 0} {ghosts : Ghosts F} (tells_out : W → Type 0) (taken : W → List ℕ) (count_out : W → ℕ) (tells : D → Type 0) (count refusals : D → ℕ)
    (out : W) (disk : D) (m : Machine F ghosts) (out' : W) (disk' : D) (m' : Machine F ghosts) : Type 0 where
  pub telling : tells disk ↔ tells disk'
  pub later : count disk ≤ count disk'
  pub own : tells disk → refusals disk ≤ refusals disk'
  pub telling_out : tells_out out ↔ tells_out out'
  pub later_out : count_out out ≤ count_out out'
  pub output : tells_out out → (m'.tally.lost ≡ None) ⊎ (m'.tally.lost ≡ Some Disk) → HandsOver (taken out) (taken out') m.state.core.output m'.state.core.output
  pub front : tells_out out → TakesMore (taken out) (taken out')
  pub of_disk : m'.tally.lost ≡ Some Disk → (m.tally.lost ≡ Some Disk) ⊎ Rose (count disk) (count disk')
  pub of_sink : m'.tally.lost ≡ Some Sink → (m.tally.lost ≡ Some Sink) ⊎ Rose (count_out out) (count_out out')
  pub first : IsSome m.tally.lost → m'.tally.lost ≡ m.tally.lost

-- the runner is at a statement, and the slots are sound for jobs that were given until there
pub record IsGivenAt {E J A : Type 0} (meaning : Meaning E J A Bay Job Answer) (deck : Deck) (files : Files) (rack : Rack E J A) (run : Run) : Type 0 where
  pub index : ℕ
  pub rest : length run.rest ≡ length (drop index (stated deck.statements))
  pub within : index < length (stated deck.statements)
  pub given : HoldsGiven deck.variables (stated deck.statements) files meaning rack index

-- The machine and the slots are what carrying out the deck over those files leaves.
pub record HasRun {E J A F : Type 0} {ghosts : Ghosts F} (meaning : Meaning E J A Bay Job Answer) (told : F → Bool) (bytes : F → List ℕ) (deck : Deck) (files left : Files)
    (m : Machine F ghosts) (rack : Rack E J A) : Type 0 where
  pub run : Run
  pub is : run_of told bytes left m ≡ Some run
  pub leaves : Leaves meaning deck.variables (stated deck.statements) files run rack
  -- each job of the slots was given by a statement not behind the one at which the deck ended
  pub given : IsSome run.ending → IsGivenAt meaning deck files rack run
  -- where the deck ended the slots hold the connections of its units, and no statement is at work
  pub units : IsSome run.ending → HoldUnits meaning rack run.core.units × (run.stage ≡ Start)
