-- What each job of a statement leaves so holds behind any number of them.
use Rattle.std.proofs.Common.{ℕ, zero, suc, List, slice_get}
use Rattle.fj_bay.specs.Jobs.{Job}
use Rattle.fj_meaning_jobs.specs.Core.{Core}
use Rattle.fj_meaning_jobs.specs.Desks.{Desk, Outcome, carry, outcome, log_length}
use Rattle.fj_meaning_jobs.specs.Doing.{Doing, finishes, gives, awaits}
use Rattle.fj_meaning_turns.specs.Inside.{walked}

module _ (P : List Desk → Doing → Type 0)
    (given : (ds : List Desk) (slot : ℕ) (job : Job) (core : Core) (next : ℕ → Doing) → P ds (gives slot job core next) → P (carry ds slot job) (next (log_length (slice_get ds slot))))
    (awaited : (ds : List Desk) (slot : ℕ) (job : Job) (core : Core) (next : Outcome → Doing) → P ds (awaits slot job core next) → P (carry ds slot job) (next (outcome ds slot job))) where
  pub at_point : (jobs : ℕ) (ds : List Desk) (d : Doing) → P ds d → P (walked jobs ds d).0 (walked jobs ds d).1
  at_point zero ds d h = h
  at_point (suc k) ds (finishes core condition) h = h
  at_point (suc k) ds (gives slot job core next) h = at_point k (carry ds slot job) (next (log_length (slice_get ds slot))) (given ds slot job core next h)
  at_point (suc k) ds (awaits slot job core next) h = at_point k (carry ds slot job) (next (outcome ds slot job)) (awaited ds slot job core next h)
