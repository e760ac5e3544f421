-- When a statement fits: what it meets in the core.
use Rattle.std.specs.Prelude.{◌≡◌, ◌≤◌, ◌<◌, ◌+◌, ◌^◌, ℕ}
use Rattle.fj_meaning.specs.Transfers.{star_limit}
use Rattle.fj_run_pending.specs.Fitting.{IsNext}
use Rattle.fj_run_pending.specs.declared.held.Held.{Held}
use Rattle.fj_run_statements.specs.declared.doing.Given.{Given}
use Rattle.fj_run_statements.specs.declared.doing.Given.TheVariants as given
use Rattle.fj_run_statements.specs.declared.state.Core.{Core}

-- the record of `*` that is begun is within its limit
abbrev pub IsKept : Core → Type 0
IsKept core = core.output.begun ≤ star_limit

-- ---- once the number of a job is known

-- A transfer, by the number of its job at a slot, may be pending under the next identifier.
pub record MayPend (core : Core) (slot number : ℕ) : Type 0 where
  -- it comes behind the pending ones
  pub next : (h : Held) → h.tag.0 ≡ core.next → h.slot ≡ slot → h.number ≡ number → IsNext core.pending h
  -- there is an identifier behind it
  pub more : core.next + 1 < 2 ^ 32

abbrev pub MayGoOn : Core → Given → ℕ → Type 0
MayGoOn core (given.Finishes condition) number = Unit {0}
MayGoOn core (given.Pends unit slot) number = MayPend core slot number
