-- When a world fits the script served alone.
use Rattle.std.specs.Prelude.{◌≡◌, ◌⊎◌, ℕ, ◌≤◌, Bool, true, false, List, length, Some, None, IfSome, is_some, slice_get}
use Rattle.fj_slot.specs.Ledger.{Ledger}
use Rattle.fj_slot.specs.Serving.{Meaning}
use Rattle.fj_slot.specs.Sound.{IsSound, IsDue, served_by}
use Rattle.fj_world.specs.declared.ask.Ask.TheVariants.{Settle, Finished}
use Rattle.fj_world.specs.declared.busy.Busy.{Busy}
use Rattle.fj_world.specs.declared.event.Event.{Event}
use Rattle.fj_world.specs.declared.event.Event.TheVariants.{Script, Begin, End}
use Rattle.fj_world.specs.Conduct.{Conduct, IsAsk}
use Rattle.fj_world.specs.Rack.{Rack}
use Rattle.fj_world.specs.Scene.{Scene}
use Rattle.fj_world.specs.Plain.{Plain, PlainSlot, next}

-- the slot has those jobs and is sound for them, and those that were told are done; while the script is not over, it was told as often
pub record SlotFits {G J A P T R : Type 0} (m : Meaning G J A P T R) (over : Bool) (q : PlainSlot P T) (l : Ledger G J A) : Type 0 where
  pub sound : IsSound m q.start q.jobs l
  pub told : over ≡ false → l.told ≡ q.told
  pub done : q.told ≤ l.done

-- a stop was told where the plain script awaited an answer
pub record HasStopped {S G J A P T R : Type 0} (c : Conduct S T R) (p : Plain P c) (script : S) (rack : Rack G J A) : Type 0 where
  pub over : c.over script ≡ true
  pub state : c.state script ≡ Some p.script
  pub slot : ℕ
  pub hand : p.hand ≡ Settle slot
  -- that slot has stopped, and at the very job that was awaited: each one that was told before is done
  pub halted : (q : PlainSlot P T) (l : Ledger G J A) → slice_get p.slots slot ≡ Some q → slice_get rack.slots slot ≡ Some l → (is_some l.halt ≡ true) × (l.done ≤ q.told) × (q.told ≤ l.done)

-- the script is the plain one, with its ask at hand, unless it is over; the slots fit; and what a worker holds is due
pub record Fits {S G J A P T R : Type 0} (m : Meaning G J A P T R) (c : Conduct S T R) (p : Plain P c) (w : Scene S G J A P T R) : Type 0 where
  pub script : c.over w.script ≡ false → (c.state w.script ≡ Some p.script) × IsAsk m p.hand w.hand
  -- or it was told a stop: the plain one awaited an answer, and is that of the script
  pub stop : c.stopped w.script ≡ true → HasStopped c p w.script w.rack
  pub same_slots : length p.slots ≡ length w.rack.slots
  pub slots : (at : ℕ) (q : PlainSlot P T) (l : Ledger G J A) → slice_get p.slots at ≡ Some q → slice_get w.rack.slots at ≡ Some l
      → SlotFits m (c.over w.script) q l
  pub held : (k : ℕ) (busy : Busy G J A P T R) (q : PlainSlot P T) (l : Ledger G J A) → slice_get w.workers k ≡ Some (Some busy)
      → slice_get p.slots busy.slot ≡ Some q → slice_get w.rack.slots busy.slot ≡ Some l
      → IsDue m q.start q.jobs l busy.out.number busy.out.engine busy.out.job

-- the world fits one entry later; or the script is over, and it fits as before
abbrev pub Advances : {S G J A P T R : Type 0} → (m : Meaning G J A P T R) (c : Conduct S T R) → Plain P c → Scene S G J A P T R → Type 0
Advances m c p w = Fits m c (next m c p) w ⊎ ((c.over w.script ≡ true) × Fits m c p w)

-- an event that was served advances the script by one entry; every other event changes nothing of that
abbrev pub StepFits : {S G J A P T R : Type 0} → (m : Meaning G J A P T R) (c : Conduct S T R) → Event → Bool → Plain P c → Scene S G J A P T R → Type 0
StepFits m c Script true p w = Advances m c p w
StepFits m c Script false p w = Fits m c p w
StepFits m c (Begin worker slot) enabled p w = Fits m c p w
StepFits m c (End worker) enabled p w = Fits m c p w

-- slots that fit plain ones, while the script is not over
pub record SlotsFit {G J A P T R : Type 0} (m : Meaning G J A P T R) (qs : List (PlainSlot P T)) (rack : Rack G J A) : Type 0 where
  pub same : length qs ≡ length rack.slots
  pub each : (at : ℕ) (q : PlainSlot P T) (l : Ledger G J A) → slice_get qs at ≡ Some q → slice_get rack.slots at ≡ Some l → SlotFits m false q l

-- A script that has finished and is not over is the plain one after all its entries, and an engine whose slot has done all
-- its jobs and has not stopped is the starting one after all of them.
pub record IsDrained {S G J A P T R : Type 0} (m : Meaning G J A P T R) (c : Conduct S T R) (p : Plain P c) (it : S) (rack : Rack G J A) : Type 0 where
  pub finished : c.over it ≡ false → p.hand ≡ Finished
  pub script : c.over it ≡ false → c.state it ≡ Some p.script
  pub engines : (at : ℕ) (q : PlainSlot P T) (l : Ledger G J A) → slice_get p.slots at ≡ Some q → slice_get rack.slots at ≡ Some l
      → l.halt ≡ None → l.done ≡ length l.jobs → IfSome l.home (λ e. m.state e ≡ Some (served_by m q.start q.jobs))
