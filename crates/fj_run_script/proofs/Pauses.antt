-- What turns come to.
use Rattle.std.proofs.Common.{◌≡◌, ℕ, ◌+◌, Bool, List, ◌∷◌, map, drop, get_or, Some, refl, sym, ap, ◌∙◌}
use Rattle.fj_outside.specs.declared.outside.FileStore.{Ghosts}
use Rattle.fj_statement.specs.declared.deck.Variable.{Variable}
use Rattle.fj_world.specs.declared.ask.Ask.TheVariants.{Submit, Settle}
use Rattle.fj_bay.specs.Jobs.{Job as Task, resume}
use Rattle.fj_bay.specs.Plain.{task_of}
use Rattle.fj_bay.specs.declared.job.Job.{Job}
use Rattle.fj_meaning.specs.State.{Files}
use Rattle.fj_meaning.specs.Statement.{Stated}
use Rattle.fj_meaning_jobs.specs.Core.{Core}
use Rattle.fj_meaning_jobs.specs.Doing.{Doing, gives, awaits}
use Rattle.fj_meaning_turns.specs.Run.{Run, Held, Stage, Acting, Awaiting}
use Rattle.fj_meaning_turns.specs.Turns.{Pauses, bump, matched, with_core, submits, settles, turn_act, ends_halts}
use Rattle.fj_run_pending.specs.Plain.{held}
use Rattle.fj_run_statements.specs.Doing.{next_of, then_of}
use Rattle.fj_run_statements.specs.State.{core_of}
use Rattle.fj_run_statements.specs.declared.doing.Given.{Given}
use Rattle.fj_run_statements.specs.declared.doing.Then.{Then}
use Rattle.fj_run_script.specs.Machine.{stage_of, run_in}
use Rattle.fj_run_script.specs.Turned.{Pausing}
use Rattle.fj_run_script.specs.declared.state.State.{State}
use Rattle.fj_run_script.proofs.Runs.{with_core_is}

module _ {F : Type 0} {ghosts : Ghosts F} (told : F → Bool) (bytes : F → List ℕ) (variables : List Variable) (rest : List Stated) (files : Files) where
  pub submit_pauses : (new : State F ghosts) (run : Run) (slot : ℕ) (job : Job F) (task : Task) (after : Stage) → task_of told bytes job ≡ Some task
      → stage_of told bytes variables rest (core_of files new.core) new.stage ≡ Some after → run_in variables rest files new after ≡ record run { sent = bump run.sent slot; stage = after }
      → Pausing told bytes variables rest files new (Submit slot job) (submits slot task after run)
  submit_pauses new run slot job task after t s e = record { due = Submit slot task; stage = after; asks = (refl, t); stands = s; comes = ap (Pauses (Submit slot task)) (sym e) }

  pub settle_pauses : (new : State F ghosts) (run : Run) (slot : ℕ) (after : Stage)
      → stage_of told bytes variables rest (core_of files new.core) new.stage ≡ Some after → run_in variables rest files new after ≡ record run { stage = after; due = slot }
      → Pausing told bytes variables rest files new (Settle slot) (settles slot after run)
  settle_pauses new run slot after s e = record { due = Settle slot; stage = after; asks = refl; stands = s; comes = ap (Pauses (Settle slot)) (sym e) }

module _ {F : Type 0} {ghosts : Ghosts F} (variables : List Variable) (st : Stated) (more : List Stated) (files : Files) (s : State F ghosts) (stage : Stage) (core : Core) (book : List Held)
    (e : held s.core.pending ≡ matched (map (λ (h : Held). h.pending) (held s.core.pending)) book) where
  pub acts_gives : (slot : ℕ) (task : Task) (next : Given) (number : ℕ) (plain : Doing) → number ≡ get_or s.sent.items slot 0
      → plain ≡ gives slot task (core_of files s.core) (next_of variables st (core_of files s.core) next)
      → turn_act st plain (record (run_in variables (st ∷ more) files s stage) { core = core; book = book })
      ≡ submits slot task (Acting (next_of variables st (core_of files s.core) next number)) (run_in variables (st ∷ more) files s stage)
  acts_gives slot task next number plain n g =
      ap (λ p. turn_act st p (record (run_in variables (st ∷ more) files s stage) { core = core; book = book })) g
      ∙ (ap (λ k. submits slot task (Acting (next_of variables st (core_of files s.core) next k)) (with_core (core_of files s.core) (record (run_in variables (st ∷ more) files s stage) { core = core; book = book }))) (sym n)
      ∙ ap (submits slot task (Acting (next_of variables st (core_of files s.core) next number))) (with_core_is variables (st ∷ more) files s stage core book e))

  pub acts_awaits : (slot : ℕ) (task : Task) (then_ : Then) (number : ℕ) (plain : Doing) → number ≡ get_or s.sent.items slot 0
      → plain ≡ awaits slot task (core_of files s.core) (then_of variables st (core_of files s.core) then_)
      → turn_act st plain (record (run_in variables (st ∷ more) files s stage) { core = core; book = book })
      ≡ submits slot task (Awaiting slot number (then_of variables st (core_of files s.core) then_)) (run_in variables (st ∷ more) files s stage)
  acts_awaits slot task then_ number plain n g =
      ap (λ p. turn_act st p (record (run_in variables (st ∷ more) files s stage) { core = core; book = book })) g
      ∙ (ap (λ k. submits slot task (Awaiting slot k (then_of variables st (core_of files s.core) then_)) (with_core (core_of files s.core) (record (run_in variables (st ∷ more) files s stage) { core = core; book = book }))) (sym n)
      ∙ ap (submits slot task (Awaiting slot number (then_of variables st (core_of files s.core) then_))) (with_core_is variables (st ∷ more) files s stage core book e))

  -- one more halt ends
  pub ends_next : (slots : List ℕ) (next slot : ℕ) (does : Doing) → drop next slots ≡ slot ∷ drop (next + 1) slots
      → turn_act st (ends_halts (drop next slots) (core_of files s.core) does) (record (run_in variables (st ∷ more) files s stage) { core = core; book = book })
      ≡ submits slot resume (Acting (ends_halts (drop (next + 1) slots) (core_of files s.core) does)) (run_in variables (st ∷ more) files s stage)
  ends_next slots next slot does d =
      ap (λ xs. turn_act st (ends_halts xs (core_of files s.core) does) (record (run_in variables (st ∷ more) files s stage) { core = core; book = book })) d
      ∙ ap (submits slot resume (Acting (ends_halts (drop (next + 1) slots) (core_of files s.core) does))) (with_core_is variables (st ∷ more) files s stage core book e)
