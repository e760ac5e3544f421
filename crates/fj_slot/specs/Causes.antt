-- Why performing a job may stop.
use Rattle.std.specs.Prelude.{◌≡◌, ℕ, ◌≤◌, Result, Err}
use Rattle.fj_outside.specs.Faults.{Rose}
use Rattle.fj_outside.specs.declared.errors.Stop.{Stop}
use Rattle.fj_outside.specs.declared.errors.Stop.TheVariants.{Failed}

-- the count of faults never falls, and `Failed` comes only where it rose
pub record HasCause {T : Type 0} (before now : ℕ) (result : Result T Stop) : Type 0 where
  pub later : before ≤ now
  pub failed : result ≡ Err Failed → Rose before now
