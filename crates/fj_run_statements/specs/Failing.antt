-- Where the disk or the sink failed in a statement's own call.
use Rattle.std.specs.Prelude.{◌≡◌, ◌≢◌, ℕ, List, Option, Some, None}
use Rattle.fj_outside.specs.Faults.{Rose}
use Rattle.fj_outside.specs.Holdings.{Holdings}
use Rattle.fj_bay.specs.Jobs.{attach}
use Rattle.fj_meaning_jobs.specs.Doing.{Doing, awaits}
use Rattle.fj_run_units.specs.Files.{files_of}
use Rattle.fj_run_units.specs.Returning.{IsAsDue}
use Rattle.fj_run_statements.specs.State.{core_at}
use Rattle.fj_run_statements.specs.declared.state.Core.{Core}

-- the file that is to be connected next
abbrev pub connected_next : Doing → Option (List ℕ)
connected_next (awaits slot (attach (Some c)) core next) = Some c.name
connected_next _ = None

-- each file is as it was, but for the one that was to be connected
abbrev pub AreStill : Doing → Holdings → Holdings → Type 0
AreStill due old new = (name : List ℕ) → connected_next due ≢ Some name → files_of new name ≡ files_of old name

-- The units are those that were due there; and so is each file, but for the one that was to be connected.
pub record StandsWhere (due : Doing) (core : Core) (held : Holdings) (before now : ℕ) : Type 0 where
  pub units : core.units ≡ (core_at due).units
  pub files : (name : List ℕ) → connected_next due ≢ Some name → IsAsDue before now (files_of held name) ((core_at due).files name)

-- There the disk's own number rose, too.
pub record FailsWhere (due : Doing) (core : Core) (held : Holdings) (before now : ℕ) : Type 0 where
  pub rose : Rose before now
  pub stands : StandsWhere due core held before now
