-- What a statement does, job by job.
use Rattle.std.specs.Prelude.{ℕ, List, [], ◌∷◌, slice_get}
use Rattle.fj_value.specs.declared.condition.Condition.{Condition}
use Rattle.fj_bay.specs.Jobs.{Job}
use Rattle.fj_meaning_jobs.specs.Core.{Core}
use Rattle.fj_meaning_jobs.specs.Desks.{Desk, Outcome, carry, outcome, log_length}

-- It ends with a condition; or it gives a job to a slot, and goes on with the job's number, or waits for what becomes of it. While a
-- job is out the core is as said.
pub data Doing : Type 0 where
  finishes : Core → Condition → Doing
  gives : ℕ → Job → Core → (ℕ → Doing) → Doing
  awaits : ℕ → Job → Core → (Outcome → Doing) → Doing

pub record Desked : Type 0 where
  pub core : Core
  pub desks : List Desk

-- each job is carried out at once
abbrev pub acted : List Desk → Doing → Desked × Condition
acted desks (finishes core condition) = (record { core = core; desks = desks }, condition)
acted desks (gives slot job core next) = acted (carry desks slot job) (next (log_length (slice_get desks slot)))
acted desks (awaits slot job core next) = acted (carry desks slot job) (next (outcome desks slot job))

-- the jobs that it gives, each with its slot
abbrev pub given : List Desk → Doing → List (ℕ × Job)
given desks (finishes core condition) = []
given desks (gives slot job core next) = (slot, job) ∷ given (carry desks slot job) (next (log_length (slice_get desks slot)))
given desks (awaits slot job core next) = (slot, job) ∷ given (carry desks slot job) (next (outcome desks slot job))
