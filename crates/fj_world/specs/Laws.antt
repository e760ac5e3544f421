-- What holds of scripts over slots, in words of their own.
use Rattle.std.specs.Prelude.{◌≡◌, ◌⊎◌, ℕ, ◌<◌, true, false, length, Some, slice_get}
use Rattle.fj_slot.specs.Serving.{Meaning}
use Rattle.fj_world.specs.declared.ask.Ask.TheVariants.{Finished}
use Rattle.fj_world.specs.declared.event.Event.{Event}
use Rattle.fj_world.specs.declared.busy.Busy.{Busy}
use Rattle.fj_world.specs.Alone.{AllHome, OwesAsSaid}
use Rattle.fj_world.specs.Conduct.{Conduct}
use Rattle.fj_world.specs.Plain.{Plain, after}
use Rattle.fj_world.specs.Scene.{Scene, IsOrderly}
use Rattle.fj_world.specs.Sketch.{Sketch, Sketches, AllRunning, may_happen}
use Rattle.fj_world.specs.Steps.{is_enabled}

-- A script that has finished has one end: however many entries two ways of serving it took, they left the same script and slots.
abbrev pub HasOneEnd : {S G J A P T R : Type 0} → Meaning G J A P T R → Conduct S T R → Type 0
HasOneEnd {P = P} m c = (p : Plain P c) (n k : ℕ) → (after m c n p).hand ≡ Finished → (after m c k p).hand ≡ Finished → after m c n p ≡ after m c k p

-- No world is stuck: where each engine that no worker holds is at home, and there is a worker, the script has finished or an
-- event is enabled.
abbrev pub IsNeverStuck : {S G J A P T R : Type 0} → Meaning G J A P T R → Conduct S T R → Type 0
IsNeverStuck {S} {G} {J} {A} {P} {T} {R} m c = (w : Scene S G J A P T R) → IsOrderly m c w → OwesAsSaid c w.script w.rack → 0 < length w.workers
    → (((k : ℕ) (busy : Busy G J A P T R) → slice_get w.workers k ≡ Some (Some busy) → ⊥) → AllHome w.rack)
    → (w.hand ≡ Finished) ⊎ ((event : Event) × (is_enabled w event ≡ true))

-- While the script is not over and no slot has stopped, an event is enabled exactly where it may happen in the world over plain data.
abbrev pub EnabledAsSketched : {S G J A P T R : Type 0} → Meaning G J A P T R → Conduct S T R → Type 0
EnabledAsSketched {S} {G} {J} {A} {P} {T} {R} m c = (sketch : Sketch P c) (w : Scene S G J A P T R) (event : Event) → Sketches m c sketch w
    → c.over w.script ≡ false → AllRunning w → may_happen m c sketch event ≡ is_enabled w event
