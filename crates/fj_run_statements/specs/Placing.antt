-- The slots of jobs.
use Rattle.std.specs.Prelude.{◌≡◌, ℕ, ◌<◌}
use Rattle.fj_meaning_jobs.specs.Desks.{most_slots}
use Rattle.fj_run_statements.specs.declared.doing.Given.{Given}
use Rattle.fj_run_statements.specs.declared.doing.Given.TheVariants as given
use Rattle.fj_run_statements.specs.declared.doing.Then.{Then}
use Rattle.fj_run_statements.specs.declared.doing.Then.TheVariants as then
use Rattle.fj_run_statements.specs.declared.doing.Doing.{Doing}
use Rattle.fj_run_statements.specs.declared.doing.Doing.TheVariants as doing

-- the slot that goes on being used once the job was carried out, if one does
abbrev pub slot_behind : Then → ℕ
slot_behind (then.Carries slot) = slot
slot_behind _ = 0

-- a transfer that is to be pending is so at the slot of its job
abbrev pub PendsAt : ℕ → Given → Type 0
PendsAt slot (given.Finishes condition) = Unit {0}
PendsAt slot (given.Pends unit own) = own ≡ slot

-- a job is given to a slot that there is
abbrev pub IsPlaced : {F : Type 0} → Doing F → Type 0
IsPlaced (doing.Finishes condition) = Unit {0}
IsPlaced (doing.Gives slot job next) = (slot < most_slots) × PendsAt slot next
IsPlaced (doing.Awaits slot job next) = (slot < most_slots) × (slot_behind next < most_slots)
