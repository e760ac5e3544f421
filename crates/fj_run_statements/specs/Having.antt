-- Which units have the files that are out, while a statement waits for its job.
use Rattle.std.specs.Prelude.{◌≡◌, ℕ, true, false, List, Option, Some, None, is_some, option_and_then, option_map}
use Rattle.fj_modes.specs.declared.specifiers.OpenSpec.{OpenSpec}
use Rattle.fj_statement.specs.declared.statement.Statement.{Statement}
use Rattle.fj_statement.specs.declared.statement.Statement.TheVariants as statement
use Rattle.fj_bay.specs.declared.job.Job.{Job}
use Rattle.fj_bay.specs.declared.job.Job.TheVariants as job
use Rattle.fj_meaning.specs.Connecting.{file_due}
use Rattle.fj_meaning.specs.Needs.{number_of}
use Rattle.fj_meaning_jobs.specs.Core.{Connected, connected_at, has_name, without_connected}
use Rattle.fj_run_units.specs.Having.{HaveFiles}
use Rattle.fj_run_units.specs.Names.{stands, left_of}
use Rattle.fj_run_statements.specs.declared.doing.After.{After}
use Rattle.fj_run_statements.specs.declared.doing.After.TheVariants as after
use Rattle.fj_run_statements.specs.declared.doing.Then.{Then}
use Rattle.fj_run_statements.specs.declared.doing.Then.TheVariants as then
use Rattle.fj_run_statements.specs.declared.doing.Doing.{Doing}
use Rattle.fj_run_statements.specs.declared.doing.Doing.TheVariants as doing

-- OPEN is to connect a unit that is not connected, to a file that no unit has
abbrev pub IsFreeNext : After → Statement → List Connected → Type 0
IsFreeNext (after.Connects number) (statement.OpenUnit u spec iostat) us = (number_of u ≡ Some number) × (connected_at us number ≡ None) × (has_name us (file_due spec number) ≡ false)
IsFreeNext next what us = Unit {0}

-- The files that are out are those of the units; one that is being connected has its file already, and one that is being closed is connected, and
-- without it OPEN may go on.
abbrev pub HaveThen : Then → List (List ℕ) → List Connected → Statement → Type 0
HaveThen (then.Attaches more) names us what = HaveFiles names more
HaveThen (then.Closes number keep next) names us what = HaveFiles names us × (is_some (connected_at us number) ≡ true) × IsFreeNext next what (without_connected number us)
HaveThen _ names us what = HaveFiles names us

-- ---- a job that is not submitted yet

-- One of the files that are out is no unit's, and the others are those of the units.
pub record HaveBut (name : List ℕ) (names : List (List ℕ)) (us : List Connected) : Type 0 where
  pub out : stands names name ≡ true
  pub free : has_name us name ≡ false
  pub others : HaveFiles (left_of names name) us

-- the statement is an OPEN of a unit of that number, of these specifiers
abbrev pub OpensAt : Statement → Option ℕ → OpenSpec → Type 0
OpensAt (statement.OpenUnit u spec iostat) number asked = (number_of u ≡ number) × (spec ≡ asked)
OpensAt _ number asked = ⊥

-- OPEN is to connect its unit, which is not connected, to that file
abbrev pub IsToOpen : Statement → List Connected → List ℕ → Type 0
IsToOpen (statement.OpenUnit u spec iostat) us name = (option_map (file_due spec) (number_of u) ≡ Some name) × (option_and_then (connected_at us) (number_of u) ≡ None)
IsToOpen _ us name = ⊥

-- the file of the connection that a job brings, if it brings one
abbrev pub name_brought : {F : Type 0} → Job F → Option (List ℕ)
name_brought (job.Attach connection) = option_map (λ c. c.name) connection
name_brought _ = None

-- beside a connection whose file has that name, if there is one
abbrev pub HaveBeside : Option (List ℕ) → List (List ℕ) → List Connected → Statement → Type 0
HaveBeside None names us what = HaveFiles names us
HaveBeside (Some name) names us what = HaveBut name names us × IsToOpen what us name

-- by what the statement does next
abbrev pub HaveNext : {F : Type 0} → Doing F → List (List ℕ) → List Connected → Statement → Type 0
HaveNext (doing.Awaits slot job next) names us what = HaveThen next names us what × HaveBeside (name_brought job) names us what
HaveNext (doing.Gives slot job next) names us what = HaveFiles names us × HaveBeside (name_brought job) names us what
HaveNext (doing.Finishes condition) names us what = HaveFiles names us
