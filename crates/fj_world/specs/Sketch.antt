-- A world over plain data, where no slot stops and no memory is refused: the script served alone so far, how far each slot
-- is, and which slot's job each worker holds.
use Rattle.std.specs.Prelude.{◌≡◌, ◌≢◌, ℕ, zero, suc, ◌+◌, Bool, true, false, ◌&&◌, not, List, [], ◌∷◌, length, map, Option, Some, None, is_some, is_none, nat_lt, slice_get, slice_set}
use Rattle.fj_world.specs.declared.ask.Ask.{Ask}
use Rattle.fj_world.specs.declared.ask.Ask.TheVariants.{Submit, Settle, Finished}
use Rattle.fj_world.specs.declared.event.Event.{Event}
use Rattle.fj_world.specs.declared.event.Event.TheVariants.{Script, Begin, End}
use Rattle.fj_slot.specs.Serving.{Meaning}
use Rattle.fj_world.specs.Conduct.{Conduct}
use Rattle.fj_slot.specs.Ledger.{Ledger}
use Rattle.fj_world.specs.declared.busy.Busy.{Busy}
use Rattle.fj_world.specs.Scene.{Scene}
use Rattle.fj_world.specs.Fits.{Fits}
use Rattle.fj_world.specs.Plain.{Plain, PlainSlot, next}

-- how many jobs of a slot are done, and whether one is out
pub record Spot : Type 0 where
  pub done : ℕ
  pub away : Bool

pub record Sketch {S T R : Type 0} (P : Type 0) (c : Conduct S T R) : Type 0 where
  pub plain : Plain P c
  pub spots : List Spot
  pub held : List (Option ℕ)

-- one element of a list is changed
abbrev pub changed_at : {X : Type 0} → (X → X) → ℕ → List X → List X
changed_at f i [] = []
changed_at f zero (x ∷ xs) = f x ∷ xs
changed_at f (suc i) (x ∷ xs) = x ∷ changed_at f i xs

abbrev pub taken_out : Spot → Spot
taken_out spot = record { done = spot.done; away = true }

abbrev pub brought_back : Spot → Spot
brought_back spot = record { done = spot.done + 1; away = false }

module _ {S G J A P T R : Type 0} (m : Meaning G J A P T R) (c : Conduct S T R) where
  -- a job waits in the slot, and none is out
  abbrev pub may_begin_at : Option Spot → Option (PlainSlot P T) → Bool
  may_begin_at None q = false
  may_begin_at (Some spot) None = false
  may_begin_at (Some spot) (Some q) = not spot.away && nat_lt spot.done (length q.jobs)

  -- the first job that is not told is done
  abbrev pub may_tell_at : Option Spot → Option (PlainSlot P T) → Bool
  may_tell_at None q = false
  may_tell_at (Some spot) None = false
  may_tell_at (Some spot) (Some q) = nat_lt q.told spot.done

  abbrev pub may_serve : Ask T → List Spot → List (PlainSlot P T) → Bool
  may_serve (Submit at t) spots slots = true
  may_serve (Settle at) spots slots = may_tell_at (slice_get spots at) (slice_get slots at)
  may_serve Finished spots slots = false

  abbrev pub holds_nothing : Option (Option ℕ) → Bool
  holds_nothing None = false
  holds_nothing (Some held) = is_none held

  abbrev pub holds_job : Option (Option ℕ) → Bool
  holds_job None = false
  holds_job (Some held) = is_some held

  abbrev pub may_happen : Sketch P c → Event → Bool
  may_happen w Script = may_serve w.plain.hand w.spots w.plain.slots
  may_happen w (Begin worker slot) = holds_nothing (slice_get w.held worker) && may_begin_at (slice_get w.spots slot) (slice_get w.plain.slots slot)
  may_happen w (End worker) = holds_job (slice_get w.held worker)

  abbrev pub ended_from : Option (Option ℕ) → ℕ → Sketch P c → Sketch P c
  ended_from None worker w = w
  ended_from (Some None) worker w = w
  ended_from (Some (Some slot)) worker w = record { plain = w.plain; spots = changed_at brought_back slot w.spots; held = slice_set w.held worker None }

  -- the world after an event that may happen
  abbrev pub happens : Sketch P c → Event → Sketch P c
  happens w Script = record { plain = next m c w.plain; spots = w.spots; held = w.held }
  happens w (Begin worker slot) = record { plain = w.plain; spots = changed_at taken_out slot w.spots; held = slice_set w.held worker (Some slot) }
  happens w (End worker) = ended_from (slice_get w.held worker) worker w

  -- the slot of an ask, of a job that is held, and of an event
  abbrev pub ask_slot : Ask T → Option ℕ
  ask_slot (Submit at t) = Some at
  ask_slot (Settle at) = Some at
  ask_slot Finished = None

  abbrev pub held_slot : Option (Option ℕ) → Option ℕ
  held_slot None = None
  held_slot (Some held) = held

  abbrev pub slot_of : Sketch P c → Event → Option ℕ
  slot_of w Script = ask_slot w.plain.hand
  slot_of w (Begin worker slot) = Some slot
  slot_of w (End worker) = held_slot (slice_get w.held worker)

  -- two events have different actors
  abbrev pub HaveOtherActors : Event → Event → Type 0
  HaveOtherActors Script Script = ⊥
  HaveOtherActors Script (Begin worker slot) = Unit {0}
  HaveOtherActors Script (End worker) = Unit {0}
  HaveOtherActors (Begin worker slot) Script = Unit {0}
  HaveOtherActors (Begin worker slot) (Begin worker' slot') = worker' ≢ worker
  HaveOtherActors (Begin worker slot) (End worker') = worker' ≢ worker
  HaveOtherActors (End worker) Script = Unit {0}
  HaveOtherActors (End worker) (Begin worker' slot') = worker' ≢ worker
  HaveOtherActors (End worker) (End worker') = worker' ≢ worker

  -- swapped, both may happen, and they leave the same world
  pub record Commute (w : Sketch P c) (a b : Event) : Type 0 where
    pub first : may_happen w b ≡ true
    pub second : may_happen (happens w b) a ≡ true
    pub same : happens (happens w b) a ≡ happens (happens w a) b

  -- two neighbouring events of different actors and different slots commute
  abbrev pub NeighboursCommute : Type 0
  NeighboursCommute = (w : Sketch P c) (a b : Event) → may_happen w a ≡ true → may_happen (happens w a) b ≡ true
      → HaveOtherActors a b → slot_of w a ≢ slot_of (happens w a) b → Commute w a b

-- how far a slot is, and whose job a worker holds
abbrev pub spot_of : {G J A : Type 0} → Ledger G J A → Spot
spot_of l = record { done = l.done; away = is_none l.home }

abbrev pub slot_held : {G J A P T R : Type 0} → Option (Busy G J A P T R) → Option ℕ
slot_held None = None
slot_held (Some busy) = Some busy.slot

-- the world is this one over plain data
pub record Sketches {S G J A P T R : Type 0} (m : Meaning G J A P T R) (c : Conduct S T R) (sketch : Sketch P c) (w : Scene S G J A P T R) : Type 0 where
  pub fits : Fits m c sketch.plain w
  pub spots : map spot_of w.rack.slots ≡ sketch.spots
  pub held : map slot_held w.workers ≡ sketch.held

-- no slot has stopped
abbrev pub AllRunning : {S G J A P T R : Type 0} → Scene S G J A P T R → Type 0
AllRunning {S} {G} {J} {A} w = (at : ℕ) (l : Ledger G J A) → slice_get w.rack.slots at ≡ Some l → l.halt ≡ None

-- the new world is the old one after the event, where the script is not over and no slot has stopped
abbrev pub Moves : {S G J A P T R : Type 0} → (m : Meaning G J A P T R) (c : Conduct S T R) → Event → Scene S G J A P T R → Scene S G J A P T R → Type 0
Moves {P = P} m c event old new = (sketch : Sketch P c) → Sketches m c sketch old → c.over new.script ≡ false → AllRunning new → Sketches m c (happens m c sketch event) new
