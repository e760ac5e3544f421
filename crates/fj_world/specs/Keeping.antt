-- What every event keeps, also where no meaning is told.
use Rattle.std.specs.Prelude.{◌≡◌, ℕ, ◌+◌, ◌<◌, ◌≤◌, ◌^◌, true, List, ◌++◌, length, Some, is_some, slice_get}
use Rattle.fj_slot.specs.Ledger.{Ledger}
use Rattle.fj_slot.specs.Serving.{Meaning}
use Rattle.fj_slot.specs.Sound.{IsCounted}
use Rattle.fj_world.specs.declared.busy.Busy.{Busy}
use Rattle.fj_world.specs.Alone.{OwesAsSaid}
use Rattle.fj_world.specs.Conduct.{Conduct, Idle}
use Rattle.fj_world.specs.Rack.{Rack}
use Rattle.fj_world.specs.Scene.{Scene}

-- a slot keeps its starting engine and its jobs, to which others may come; no job done or told is taken back
pub record GoesOn {G J A : Type 0} (l l' : Ledger G J A) : Type 0 where
  pub start : l'.start ≡ l.start
  pub more : List J
  pub jobs : l'.jobs ≡ l.jobs ++ more
  pub done : l.done ≤ l'.done
  pub told : l.told ≤ l'.told

-- the same of each slot, and there are as many, with as much room
pub record AllGoOn {G J A : Type 0} (old new : Rack G J A) : Type 0 where
  pub same : length new.slots ≡ length old.slots
  pub spare : new.spare ≡ old.spare
  pub each : (at : ℕ) (l l' : Ledger G J A) → slice_get old.slots at ≡ Some l → slice_get new.slots at ≡ Some l' → GoesOn l l'

-- each slot is counted
abbrev pub AllCounted : {G J A P T R : Type 0} → Meaning G J A P T R → Rack G J A → Type 0
AllCounted {G} {J} {A} m rack = (at : ℕ) (l : Ledger G J A) → slice_get rack.slots at ≡ Some l → IsCounted m l

-- and an engine that a worker holds counts no fewer faults than the starting one of its slot
abbrev pub HeldCounted : {S G J A P T R : Type 0} → Meaning G J A P T R → Scene S G J A P T R → Type 0
HeldCounted {S} {G} {J} {A} {P} {T} {R} m w = (k : ℕ) (busy : Busy G J A P T R) (l : Ledger G J A) → slice_get w.workers k ≡ Some (Some busy)
    → slice_get w.rack.slots busy.slot ≡ Some l → m.faults l.start ≤ m.faults busy.out.engine

-- some slot has stopped
pub record SomeStopped {G J A : Type 0} (rack : Rack G J A) : Type 0 where
  pub at : ℕ
  pub ledger : Ledger G J A
  pub found : slice_get rack.slots at ≡ Some ledger
  pub halted : is_some ledger.halt ≡ true

pub record Keeps {S G J A P T R : Type 0} (m : Meaning G J A P T R) (c : Conduct S T R) (old new : Scene S G J A P T R) : Type 0 where
  pub slots : AllGoOn old.rack new.rack
  pub owed : OwesAsSaid c old.script old.rack → OwesAsSaid c new.script new.rack
  pub counted : AllCounted m old.rack → HeldCounted m old → AllCounted m new.rack × HeldCounted m new
  -- a script is told a stop of a slot that has stopped
  pub stopped : (c.stopped old.script ≡ true → SomeStopped old.rack) → c.stopped new.script ≡ true → SomeStopped new.rack

-- The script may be served again over the slots that were left: no ask is due, it uses as many slots, and jobs can be numbered for the asks left.
pub record CanGoOn {S G J A T R : Type 0} (c : Conduct S T R) (old new : S) (rack : Rack G J A) : Type 0 where
  pub idle : c.due new ≡ Idle
  pub uses : c.uses new ≡ c.uses old
  pub few : (at : ℕ) (l : Ledger G J A) → slice_get rack.slots at ≡ Some l → length l.jobs + c.left new < 2 ^ 62
