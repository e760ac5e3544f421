-- Slots that hold the connections of units, each under its name, and no other.
use Rattle.std.specs.Prelude.{◌≡◌, ℕ, ◌<◌, ◌≤◌, ◌==◌, true, List, [], ◌∷◌, length, take, All, Option, Some, None, is_some, option_map, slice_get, if◌then◌else◌}
use Rattle.fj_connect.specs.Connection.{Connection}
use Rattle.fj_slot.specs.Ledger.{Ledger}
use Rattle.fj_slot.specs.Serving.{Meaning}
use Rattle.fj_slot.specs.Sound.{IsSound}
use Rattle.fj_world.specs.Rack.{Rack}
use Rattle.fj_bay.specs.Bay.{Bay}
use Rattle.fj_bay.specs.Jobs.{Job, Answer}
use Rattle.fj_bay.specs.Spoilt.{behind}
use Rattle.fj_meaning_jobs.specs.Core.{Connected}
use Rattle.fj_meaning_turns.specs.Serving.{over_bays}
use Rattle.fj_run_units.specs.Having.{Differ}
use Rattle.fj_run_units.specs.Units.{same_slot}

-- the name of the connection behind so many jobs
abbrev pub name_behind : Bay → List Job → ℕ → Option (List ℕ)
name_behind start jobs number = option_map (λ (c : Connection). c.name) (behind start (take number jobs)).connection

-- the name of the unit at a slot
abbrev pub name_at : List Connected → ℕ → Option (List ℕ)
name_at [] at = None
name_at (u ∷ us) at = if u.slot == at then Some u.name else name_at us at

-- The slot is sound. However many of its jobs are done that are not yet, and none where it has stopped, the connection then has that
-- name; or there is none.
pub record HoldsName {E J A : Type 0} (m : Meaning E J A Bay Job Answer) (l : Ledger E J A) (name : Option (List ℕ)) : Type 0 where
  pub start : Bay
  pub jobs : List Job
  pub sound : IsSound (over_bays m) start jobs l
  pub left : (number : ℕ) → l.done ≤ number → number ≤ length jobs → (is_some l.halt ≡ true → number ≡ l.done) → name_behind start jobs number ≡ name

-- Each unit has a slot of its own, and each slot holds the connection of its unit, under its name; where no unit has it, none.
pub record HoldUnits {E J A : Type 0} (m : Meaning E J A Bay Job Answer) (rack : Rack E J A) (units : List Connected) : Type 0 where
  pub within : All (λ (u : Connected). u.slot < length rack.slots) units
  pub apart : Differ same_slot units
  pub holds : (at : ℕ) (l : Ledger E J A) → slice_get rack.slots at ≡ Some l → HoldsName m l (name_at units at)
