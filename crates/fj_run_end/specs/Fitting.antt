-- When slots, names and units fit: each unit has its connection, and its file is out.
use Rattle.std.specs.Prelude.{◌≡◌, ◌≢◌, ℕ, true, false, List, [], ◌∷◌, Option, Some, slice_get}
use Rattle.fj_outside.specs.declared.errors.Stop.{Stop}
use Rattle.fj_outside.specs.declared.errors.Stop.TheVariants.{Failed}
use Rattle.fj_connect.specs.Linked.{Linked}
use Rattle.fj_slot.specs.Serving.{Meaning}
use Rattle.fj_world.specs.Rack.{Rack}
use Rattle.fj_bay.specs.Bay.{Bay}
use Rattle.fj_bay.specs.Jobs.{Job, Answer}
use Rattle.fj_meaning_jobs.specs.Core.{Connected, has_name}
use Rattle.fj_run_units.specs.Having.{DifferInFile}
use Rattle.fj_run_units.specs.Names.{stands}
use Rattle.fj_run_units.specs.Units.{has_slot}
use Rattle.fj_run_end.specs.Holding.{HoldUnits}
use Rattle.fj_run_end.specs.declared.remains.Remains.{Remains}

-- the files of the units are out, and no two units have the same
abbrev pub AllOut : List (List ℕ) → List Connected → Type 0
AllOut names us = ((name : List ℕ) → has_name us name ≡ true → stands names name ≡ true) × DifferInFile us

-- The slots hold the connections of the units, and the names of their files are out.
pub record FitUnits {E J A : Type 0} (m : Meaning E J A Bay Job Answer) (rack : Rack E J A) (names : List (List ℕ)) (units : List Connected) : Type 0 where
  pub held : HoldUnits m rack units
  pub out : AllOut names units

-- ---- what remains of the slots

-- where a fault stopped the slot, its file counts faults
abbrev pub CountsStop : ℕ → Option Stop → Type 0
CountsStop count stop = stop ≡ Some Failed → count ≢ 0

-- A unit has a connection of its name at its slot, and the file is out.
pub record HasItsOwn {F : Type 0} (count : F → ℕ) (names : List (List ℕ)) (all : List (Remains F)) (u : Connected) : Type 0 where
  pub connection : Linked F
  pub stop : Option Stop
  pub here : slice_get all u.slot ≡ Some (record { connection = Some connection; stop = stop })
  pub named : connection.name ≡ u.name
  pub out : stands names u.name ≡ true
  pub counts : CountsStop (count connection.file) stop

-- Each unit has its own, at a slot and of a name that no other has.
abbrev pub HaveTheirOwn : {F : Type 0} → (F → ℕ) → List (List ℕ) → List (Remains F) → List Connected → Type 0
HaveTheirOwn count names all [] = Unit {0}
HaveTheirOwn count names all (u ∷ us) = HasItsOwn count names all u × (has_slot us u.slot ≡ false) × (has_name us u.name ≡ false) × HaveTheirOwn count names all us
