-- How many jobs a statement still gives, one after another.
use Rattle.std.specs.Prelude.{ℕ, ◌+◌, ◌-◌, ◌≤◌}
use Rattle.fj_run_statements.specs.declared.doing.After.{After}
use Rattle.fj_run_statements.specs.declared.doing.After.TheVariants as after
use Rattle.fj_run_statements.specs.declared.doing.Then.{Then}
use Rattle.fj_run_statements.specs.declared.doing.Then.TheVariants as then
use Rattle.fj_run_statements.specs.declared.doing.Doing.{Doing}
use Rattle.fj_run_statements.specs.declared.doing.Doing.TheVariants as doing

-- once a connection is closed, where so many units are left: one for each of them, or one that connects
abbrev pub jobs_after : After → ℕ → ℕ
jobs_after (after.Finishes condition) units = 0
jobs_after (after.ClosesAll condition) units = units
jobs_after (after.Connects number) units = 1

-- once its job was carried out, where so many units were connected: a transfer may end a halt
abbrev pub jobs_behind : Then → ℕ → ℕ
jobs_behind (then.Carries slot) units = 1
jobs_behind (then.Closes number keep next) units = jobs_after next (units - 1)
jobs_behind _ units = 0

-- with the one that it gives next
abbrev pub jobs_of : {F : Type 0} → Doing F → ℕ → ℕ
jobs_of (doing.Finishes condition) units = 0
jobs_of (doing.Gives slot job next) units = 1
jobs_of (doing.Awaits slot job next) units = jobs_behind next units + 1

-- however many units there are it gives one job at most
abbrev pub GivesOne : {F : Type 0} → Doing F → Type 0
GivesOne does = (units : ℕ) → jobs_of does units ≤ 1
