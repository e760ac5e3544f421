-- The jobs that a statement waits for, by slot and number.
use Rattle.std.specs.Prelude.{◌≡◌, ◌⊎◌, ℕ, ◌<◌, true, List, Some, None, length, drop, slice_get, get_or}
use Rattle.fj_statement.specs.declared.deck.Variable.{Variable}
use Rattle.fj_slot.specs.Serving.{Meaning}
use Rattle.fj_world.specs.declared.ask.Ask.TheVariants.{Finished}
use Rattle.fj_world.specs.Plain.{after}
use Rattle.fj_bay.specs.Bay.{Bay}
use Rattle.fj_bay.specs.Jobs.{Job, Answer}
use Rattle.fj_meaning.specs.State.{Files}
use Rattle.fj_meaning.specs.Statement.{Stated}
use Rattle.fj_meaning.specs.Telling.{tells_id}
use Rattle.fj_meaning_jobs.specs.Core.{Core, Pending}
use Rattle.fj_meaning_jobs.specs.Desks.{Outcome, log_length}
use Rattle.fj_meaning_jobs.specs.Doing.{Doing, awaits, Desked}
use Rattle.fj_meaning_jobs.specs.Desking.{fresh}
use Rattle.fj_meaning_turns.specs.Run.{Run}
use Rattle.fj_meaning_turns.specs.Serving.{over_bays, Shows, run_conduct, begins}
use Rattle.fj_meaning_turns.specs.Inside.{waited_at, does, walked, cut_desks}

-- it is the job of a transfer that the statement tells
pub record TellsJob (statement : Stated) (before : Desked) (slot number : ℕ) : Type 0 where
  pub transfer : Pending
  pub at : ℕ
  pub pending : slice_get before.core.book at ≡ Some transfer
  pub place : transfer.slot ≡ slot
  pub number_is : transfer.number ≡ number
  pub tells : tells_id (waited_at statement before) transfer.id ≡ true

-- or the statement's own, which it gives behind so many others
pub record AwaitsOwn (variables : List Variable) (statement : Stated) (before : Desked) (slot number : ℕ) : Type 0 where
  pub jobs : ℕ
  pub job : Job
  pub core : Core
  pub onward : Outcome → Doing
  pub awaited : (walked jobs before.desks (does variables statement before)).1 ≡ awaits slot job core onward
  pub number_is : log_length (slice_get (walked jobs before.desks (does variables statement before)).0 slot) ≡ number

abbrev pub IsAwaited : List Variable → Stated → Desked → ℕ → ℕ → Type 0
IsAwaited variables statement before slot number = TellsJob statement before slot number ⊎ AwaitsOwn variables statement before slot number

-- a statement before that place of the deck waits for it
pub record IsAwaitedBefore (variables : List Variable) (deck : List Stated) (first : Desked) (last slot number : ℕ) : Type 0 where
  pub index : ℕ
  pub earlier : index < last
  pub statement : Stated
  pub before : Desked
  pub reached : cut_desks variables index deck first ≡ Some (statement, before)
  pub awaited : IsAwaited variables statement before slot number

-- each such job was told, where so many of each slot were
abbrev pub AwaitedAreTold : List Variable → List Stated → Desked → ℕ → List ℕ → Type 0
AwaitedAreTold variables deck first last told = (slot number : ℕ) → IsAwaitedBefore variables deck first last slot number → number < get_or told slot 0

-- A runner is at a statement of the deck, or the deck ended there, and each job that the statements before that one wait for was told.
pub record HasAwaited (variables : List Variable) (deck : List Stated) (files : Files) (run : Run) : Type 0 where
  pub index : ℕ
  pub statement : Stated
  pub before : Desked
  pub reached : cut_desks variables index deck (fresh variables files) ≡ Some (statement, before)
  pub rest : length run.rest ≡ length (drop index deck)
  pub told : AwaitedAreTold variables deck (fresh variables files) index run.told

module _ {E J A S : Type 0} (m : Meaning E J A Bay Job Answer) (s : Shows S) where
  -- for every deck, after any number of entries of the runner served alone; or no statement is left, and none ended the deck
  abbrev pub EachAwaited : Type 0
  EachAwaited = (variables : List Variable) (deck : List Stated) (files : Files) (n : ℕ) →
      let x = after (over_bays m) (run_conduct s) n (begins m s variables deck files) in
      ((x.hand ≡ Finished) × (x.script.ending ≡ None)) ⊎ HasAwaited variables deck files x.script
