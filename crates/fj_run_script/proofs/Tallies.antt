-- The ask at hand, and whether it is over.
use Rattle.std.proofs.Common.{◌≡◌, ℕ, Bool, true, false, List, refl}
use Rattle.fj_world.specs.Conduct as conduct
use Rattle.fj_world.specs.Conduct.{IsSubmitting, IsSettling}
use Rattle.fj_run_script.specs.Tallying.{due_of, MaySubmit, MaySettle}
use Rattle.fj_run_script.specs.declared.hand.Hand.{Hand}
use Rattle.fj_run_script.specs.declared.hand.Hand.TheVariants.{Idle, Submitting, Settling}

pub settling_runs : (hand : Hand) (over : Bool) (left : ℕ) (owed : List ℕ) → MaySettle hand over left owed → IsSettling (due_of hand) → over ≡ false
settling_runs Idle over left owed may s = absurd s
settling_runs (Submitting slot) over left owed may s = absurd s
settling_runs (Settling slot) over left owed may s = (may slot refl).0

pub submitting_runs : (hand : Hand) (over : Bool) (left : ℕ) → MaySubmit hand over left → IsSubmitting (due_of hand) → over ≡ false
submitting_runs Idle over left may s = absurd s
submitting_runs (Submitting slot) over left may s = (may slot refl).0
submitting_runs (Settling slot) over left may s = absurd s

pub asking : (hand : Hand) → due_of hand ≡ conduct.Idle → hand ≡ Idle
asking Idle e = refl
asking (Submitting slot) e = cc
asking (Settling slot) e = cc

pub not_both : (b : Bool) → b ≡ true → b ≡ false → ⊥
not_both true t f = cc
not_both false t f = cc

-- while it is not over no stop was told
pub not_stopped : (stopped over : Bool) → (stopped ≡ true → over ≡ true) → over ≡ false → stopped ≡ false
not_stopped true over stop going = absurd (not_both over (stop refl) going)
not_stopped false over stop going = refl
