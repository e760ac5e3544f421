-- What is due.
use Rattle.std.proofs.Common.{◌≡◌, ℕ, Bool, true, false, if◌then◌else◌, refl}
use Rattle.fj_world.specs.Conduct.{Due, Idle, Submitting, Settling, IsSettling}

pub settling_inv : (n a : Bool) (k : ℕ) → IsSettling (if n then Submitting k else (if a then Settling k else Idle)) → (n ≡ false) × (a ≡ true)
settling_inv true a k h = absurd h
settling_inv false true k h = (refl, refl)
settling_inv false false k h = absurd h
