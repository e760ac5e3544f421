-- The statement's own job comes back: what does not tell a stage that waits for it from one that has its answer stays the same.
use Rattle.std.proofs.Common.{◌≡◌, ℕ, ◌==◌, ◌&&◌, Bool, true, false, cond, refl}
use Rattle.fj_bay.specs.declared.job.Job.{Job}
use Rattle.fj_bay.specs.declared.job.Answer.{Answer}
use Rattle.fj_run_statements.specs.declared.doing.Then.{Then}
use Rattle.fj_run_script.specs.Answering.{with_own}
use Rattle.fj_run_script.specs.declared.stage.Stage.{Stage}
use Rattle.fj_run_script.specs.declared.stage.Stage.TheVariants as stage

module _ {F X : Type 0} (p : Stage F → X) (slot number : ℕ) (job : Job F) (answer : Answer) (same : (own last : ℕ) (next : Then) → p (stage.Answered next job answer) ≡ p (stage.Awaiting own last next)) where
  own_by : (b : Bool) (own last : ℕ) (next : Then) → p (cond b (stage.Answered next job answer) (stage.Awaiting own last next)) ≡ p (stage.Awaiting own last next)
  own_by true own last next = same own last next
  own_by false own last next = refl

  pub own_same : (s : Stage F) → p (with_own slot number job answer s) ≡ p s
  own_same stage.Start = refl
  own_same (stage.Waiting whose from) = refl
  own_same (stage.Resuming slots next condition) = refl
  own_same (stage.Going next n) = refl
  own_same (stage.Awaiting own last next) = own_by ((own == slot) && (last == number)) own last next
  own_same (stage.Answered next other reply) = refl
