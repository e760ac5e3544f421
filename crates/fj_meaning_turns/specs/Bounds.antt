-- The bound on asks: whatever answers are given back, the runner keeps to its slots, and asks no more than so often.
use Rattle.std.specs.Prelude.{◌≡◌, ℕ, zero, suc, ◌*◌, ◌<◌, List, length, get_or}
use Rattle.fj_statement.specs.declared.deck.Variable.{Variable}
use Rattle.fj_world.specs.declared.ask.Ask.{Ask}
use Rattle.fj_world.specs.declared.ask.Ask.TheVariants.{Submit, Settle, Finished}
use Rattle.fj_bay.specs.Jobs.{Job}
use Rattle.fj_meaning.specs.State.{Files}
use Rattle.fj_meaning.specs.Statement.{Stated}
use Rattle.fj_meaning_jobs.specs.Desks.{Outcome, most_slots}
use Rattle.fj_meaning_turns.specs.Run.{Run}
use Rattle.fj_meaning_turns.specs.Turns.{Asked, asked, told_of}
use Rattle.fj_meaning_turns.specs.Serving.{first_run}
use Rattle.fj_meaning_turns.specs.Few.{most_jobs}

-- the ask is served, and where it awaits an answer it is this one
abbrev pub served_by : Ask Job → Run → Outcome → Asked
served_by (Submit slot job) run it = asked run
served_by (Settle slot) run it = asked (told_of run it)
served_by Finished run it = record { ask = Finished; run = run }

-- so many asks are served, with these answers
abbrev pub answered : ℕ → (ℕ → Outcome) → Asked → Asked
answered zero answers a = a
answered (suc n) answers a = answered n (λ k. answers (suc k)) (served_by a.ask a.run (answers 0))

abbrev pub most_asks : List Stated → ℕ
most_asks deck = 2 * (most_jobs * length deck)

-- a job is given to a slot that there is; an answer is awaited of one that was given a job which is not told
abbrev pub KeepsToSlots : Ask Job → Run → Type 0
KeepsToSlots (Submit slot job) run = slot < most_slots
KeepsToSlots (Settle slot) run = (slot < most_slots) × (get_or run.told slot 0 < get_or run.sent slot 0)
KeepsToSlots Finished run = Unit {0}

abbrev pub AsksKeepToSlots : Type 0
AsksKeepToSlots = (variables : List Variable) (deck : List Stated) (files : Files) (answers : ℕ → Outcome) (n : ℕ) →
    let a = answered n answers (asked (first_run variables deck files)) in KeepsToSlots a.ask a.run

abbrev pub AsksEnd : Type 0
AsksEnd = (variables : List Variable) (deck : List Stated) (files : Files) (answers : ℕ → Outcome) →
    (answered (most_asks deck) answers (asked (first_run variables deck files))).ask ≡ Finished
