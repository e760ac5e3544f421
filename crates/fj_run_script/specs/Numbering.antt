-- Numbers of jobs, identifiers and slots of a run.
use Rattle.std.specs.Prelude.{◌≡◌, ℕ, ◌<◌, ◌≤◌, ◌==◌, ◌&&◌, Bool, true, false, List, [], ◌∷◌, All, get_or, is_none}
use Rattle.fj_meaning_jobs.specs.Desks.{most_slots}
use Rattle.fj_meaning_turns.specs.Run.{Held as PlainHeld}
use Rattle.fj_run_pending.specs.Plain.{held_of}
use Rattle.fj_run_pending.specs.declared.held.Held.{Held}
use Rattle.fj_run_statements.specs.Placing.{slot_behind}
use Rattle.fj_run_statements.specs.declared.doing.Given.{Given}
use Rattle.fj_run_statements.specs.declared.doing.Given.TheVariants as given
use Rattle.fj_run_script.specs.declared.stage.Stage.{Stage}
use Rattle.fj_run_script.specs.declared.stage.Stage.TheVariants as stage

-- ---- pending transfers

-- the jobs of pending transfers were given
abbrev pub AreGiven : List ℕ → List Held → Type 0
AreGiven sent hs = All (λ (h : Held). h.number < get_or sent h.slot 0) hs

-- so were their identifiers
abbrev pub AreNamed : ℕ → List Held → Type 0
AreNamed next hs = All (λ (h : Held). h.tag.0 < next) hs

-- ---- the statement's own job

-- a transfer that is to be pending has the job of that number at that slot
abbrev pub pends_by : ℕ → ℕ → Given → ℕ → Bool
pends_by slot number (given.Finishes condition) last = false
pends_by slot number (given.Pends unit own) last = (own == slot) && (last == number)

-- it gave the job of that number at that slot, and waits for it or makes its transfer pending
abbrev pub gave : {F : Type 0} → ℕ → ℕ → Stage F → Bool
gave slot number stage.Start = false
gave slot number (stage.Waiting whose from) = false
gave slot number (stage.Resuming slots next condition) = false
gave slot number (stage.Going next last) = pends_by slot number next last
gave slot number (stage.Awaiting own last then) = (own == slot) && (last == number)
gave slot number (stage.Answered then job answer) = false

-- a job that was given to a slot, behind those of the pending transfers of that slot
abbrev pub IsLast : List ℕ → List Held → ℕ → ℕ → Type 0
IsLast sent hs slot number = (number < get_or sent slot 0) × All (λ (h : Held). h.slot ≡ slot → h.number < number) hs

-- the statement's own job is one
abbrev pub OwnIsLast : {F : Type 0} → List ℕ → List Held → Stage F → Type 0
OwnIsLast sent hs s = (slot number : ℕ) → gave slot number s ≡ true → IsLast sent hs slot number

-- ---- jobs that are not told

-- by slot no more jobs were told than were given
abbrev pub AreWithin : List ℕ → List ℕ → Type 0
AreWithin told sent = (slot : ℕ) → get_or told slot 0 ≤ get_or sent slot 0

-- the job of a transfer without an answer is not told
abbrev pub IsUntold : List ℕ → PlainHeld → Type 0
IsUntold told h = is_none h.answer ≡ true → get_or told h.pending.slot 0 ≤ h.pending.number

abbrev pub AreUntold : List ℕ → List Held → Type 0
AreUntold told hs = All (λ (h : Held). IsUntold told (held_of h)) hs

-- nor is the statement's own job
abbrev pub OwnIsUntold : {F : Type 0} → List ℕ → Stage F → Type 0
OwnIsUntold told s = (slot number : ℕ) → gave slot number s ≡ true → get_or told slot 0 ≤ number

-- ---- slots

abbrev pub AreSlots : List ℕ → Type 0
AreSlots slots = All (λ slot. slot < most_slots) slots

-- the slots that a statement uses later
abbrev pub slots_behind : {F : Type 0} → Stage F → List ℕ
slots_behind stage.Start = []
slots_behind (stage.Waiting whose from) = []
slots_behind (stage.Resuming slots next condition) = slots
slots_behind (stage.Going next last) = []
slots_behind (stage.Awaiting own last then) = slot_behind then ∷ []
slots_behind (stage.Answered then job answer) = slot_behind then ∷ []
