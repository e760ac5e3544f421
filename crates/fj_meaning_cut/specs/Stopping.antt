-- The jobs of slots, each with the statement that gives it; and what is found of a file in which one of them was stopped.
use Rattle.std.specs.Prelude.{◌≡◌, ◌⊎◌, ℕ, ◌<◌, ◌≤◌, List, [], ◌∷◌, ◌++◌, length, take, drop, Option, Some, None, IsSome, slice_get}
use Rattle.fj_statement.specs.declared.deck.Variable.{Variable}
use Rattle.fj_slot.specs.Ledger.{Ledger}
use Rattle.fj_slot.specs.Serving.{Meaning}
use Rattle.fj_slot.specs.Sound.{IsSound}
use Rattle.fj_world.specs.declared.ask.Ask.TheVariants.{Settle, Finished}
use Rattle.fj_world.specs.Losing.{before_ask}
use Rattle.fj_world.specs.Plain.{PlainSlot}
use Rattle.fj_world.specs.Rack.{Rack}
use Rattle.fj_bay.specs.Bay.{Bay}
use Rattle.fj_bay.specs.Jobs.{Job, detach, Answer}
use Rattle.fj_bay.specs.Spoilt.{MayLeave, behind}
use Rattle.fj_meaning.specs.State.{Files}
use Rattle.fj_meaning.specs.Statement.{Stated}
use Rattle.fj_meaning_jobs.specs.Desks.{Desk}
use Rattle.fj_meaning_jobs.specs.Doing.{Desked}
use Rattle.fj_meaning_jobs.specs.Desking.{fresh}
use Rattle.fj_meaning_jobs.specs.Giving.{carry_all}
use Rattle.fj_meaning_turns.specs.Awaiting.{IsAwaitedBefore}
use Rattle.fj_meaning_turns.specs.Run.{Run}
use Rattle.fj_meaning_turns.specs.Serving.{over_bays, Shows, run_conduct, first_run, fresh_slots}
use Rattle.fj_meaning_turns.specs.Cutting.{stands}
use Rattle.fj_meaning_turns.specs.Inside.{jobs_of, cut_desks}
use Rattle.fj_meaning_turns.specs.Passing.{passes}
use Rattle.fj_meaning_turns.specs.Laws.{plain_bays, Seen, shown}

module _ (variables : List Variable) (deck : List Stated) (files : Files) where
  -- A statement of the deck to which the execution comes gives the slot this job, behind its jobs before that one, as the slot's job of
  -- that number, and the slot's bay is this then. The statement is not behind the one at that last place; and at that one the job may
  -- also be the one that takes the connection out, where its file goes back to the disk behind so many of the statement's jobs.
  pub record GivesTo (last slot number : ℕ) (bay : Bay) (job : Job) : Type 0 where
    pub index : ℕ
    pub until : index ≤ last
    pub statement : Stated
    pub before : Desked
    pub reached : cut_desks variables index deck (fresh variables files) ≡ Some (statement, before)
    pub jobs : ℕ
    pub desk : Desk
    pub there : slice_get (carry_all before.desks (take jobs (jobs_of variables statement before))) slot ≡ Some desk
    pub bay_is : desk.bay ≡ bay
    pub number_is : length desk.log ≡ number
    pub gives : (slice_get (jobs_of variables statement before) jobs ≡ Some (slot, job)) ⊎ ((index ≡ last) × (job ≡ detach None))

  -- each job of a slot was given so, and the one behind them that takes the connection out
  abbrev pub AreGiven : ℕ → ℕ → Bay → List Job → Type 0
  AreGiven last slot start jobs = (number : ℕ) (job : Job) → slice_get (jobs ++ detach None ∷ []) number ≡ Some job → GivesTo last slot number (behind start (take number jobs)) job

  -- the job of that number at that slot is one that a statement before that place waits for
  abbrev pub WasAwaited : ℕ → ℕ → ℕ → Type 0
  WasAwaited last slot number = IsAwaitedBefore variables deck (fresh variables files) last slot number

  -- the runner is at a statement of the deck, and so the jobs of each slot were given; those that earlier statements wait for were told
  pub record WereGiven (run : Run) (slots : List (PlainSlot Bay Job)) : Type 0 where
    pub index : ℕ
    pub rest : length run.rest ≡ length (drop index deck)
    pub within : index < length deck
    pub each : (at : ℕ) (q : PlainSlot Bay Job) → slice_get slots at ≡ Some q → AreGiven index at q.start q.jobs
    pub told : (at : ℕ) (q : PlainSlot Bay Job) → slice_get slots at ≡ Some q → (number : ℕ) → WasAwaited index at number → number < q.told

  -- the slots are sound for such jobs, and have done those that earlier statements wait for
  abbrev pub HoldsGiven : {E J A : Type 0} → Meaning E J A Bay Job Answer → Rack E J A → ℕ → Type 0
  HoldsGiven {E} {J} {A} m rack last = (at : ℕ) (l : Ledger E J A) → slice_get rack.slots at ≡ Some l → (q : PlainSlot Bay Job) × IsSound (over_bays m) q.start q.jobs l × AreGiven last at q.start q.jobs
      × ((number : ℕ) → WasAwaited last at number → number < l.done)

  -- What is found of a file in which such a job was stopped, be it one of the statements or the one by which the file goes back. It
  -- stands behind each job of its slot that a statement before that place waits for.
  pub record IsLeftShort (last : ℕ) (name : List ℕ) (found : Option (List ℕ)) : Type 0 where
    pub slot : ℕ
    pub number : ℕ
    pub bay : Bay
    pub job : Job
    pub gives : GivesTo last slot number bay job
    pub behind_them : (other : ℕ) → WasAwaited last slot other → other < number
    pub leaves : MayLeave bay job name found

-- ---- the laws

module _ {E J A S : Type 0} (m : Meaning E J A Bay Job Answer) (s : Shows S) where
  -- where an answer is awaited, after any number of entries
  abbrev pub EachStopGiven : Type 0
  EachStopGiven = (variables : List Variable) (deck : List Stated) (files : Files) (n slot : ℕ) →
      let x = stands m s variables deck files n in x.hand ≡ Settle slot → WereGiven variables deck files x.script x.slots

  -- before an ask, and behind the statements that are then passed
  abbrev pub EachTurnGiven : Type 0
  EachTurnGiven = (variables : List Variable) (deck : List Stated) (files : Files) (n count : ℕ) (run : Run) →
      let b = before_ask (over_bays m) (run_conduct s) n (first_run variables deck files) fresh_slots in
      b.0.ending ≡ None → passes count b.0 ≡ Some run →
      (run.rest ≡ []) ⊎ WereGiven variables deck files run b.1

  -- and where the deck ended
  abbrev pub EachEndGiven : Type 0
  EachEndGiven = (variables : List Variable) (deck : List Stated) (files : Files) (n : ℕ) →
      let x = stands m s variables deck files n in x.hand ≡ Finished → IsSome x.script.ending → WereGiven variables deck files x.script x.slots

abbrev pub StopsAreGiven : Type 0
StopsAreGiven = (s : Seen Run) → EachStopGiven plain_bays (shown s)

abbrev pub TurnsAreGiven : Type 0
TurnsAreGiven = (s : Seen Run) → EachTurnGiven plain_bays (shown s)

abbrev pub EndsAreGiven : Type 0
EndsAreGiven = (s : Seen Run) → EachEndGiven plain_bays (shown s)
