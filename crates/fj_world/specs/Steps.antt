-- Which events are enabled.
use Rattle.std.specs.Prelude.{Bool, true, false, ◌&&◌, Option, Some, None, is_none, slice_get}
use Rattle.fj_slot.specs.Ledger.{Ledger, can_begin, can_tell}
use Rattle.fj_world.specs.declared.ask.Ask.{Ask}
use Rattle.fj_world.specs.declared.ask.Ask.TheVariants.{Submit, Settle, Finished}
use Rattle.fj_world.specs.declared.busy.Busy.{Busy}
use Rattle.fj_world.specs.declared.event.Event.{Event}
use Rattle.fj_world.specs.declared.event.Event.TheVariants.{Script, Begin, End}
use Rattle.fj_world.specs.Rack.{Rack}
use Rattle.fj_world.specs.Scene.{Scene}

abbrev pub is_ready : {G J A : Type 0} → Option (Ledger G J A) → Bool
is_ready None = false
is_ready (Some l) = can_tell l

abbrev pub is_waiting : {G J A : Type 0} → Option (Ledger G J A) → Bool
is_waiting None = false
is_waiting (Some l) = can_begin l

-- the worker exists and holds nothing
abbrev pub is_free : {G J A P T R : Type 0} → Option (Option (Busy G J A P T R)) → Bool
is_free None = false
is_free (Some held) = is_none held

-- the worker holds a job
abbrev pub is_busy : {G J A P T R : Type 0} → Option (Option (Busy G J A P T R)) → Bool
is_busy None = false
is_busy (Some None) = false
is_busy (Some (Some busy)) = true

abbrev pub can_serve : {G J A : Type 0} → Ask J → Rack G J A → Bool
can_serve (Submit at job) rack = true
can_serve (Settle at) rack = is_ready (slice_get rack.slots at)
can_serve Finished rack = false

-- the event is enabled
abbrev pub is_enabled : {S G J A P T R : Type 0} → Scene S G J A P T R → Event → Bool
is_enabled w Script = can_serve w.hand w.rack
is_enabled w (Begin worker slot) = is_free (slice_get w.workers worker) && is_waiting (slice_get w.rack.slots slot)
is_enabled w (End worker) = is_busy (slice_get w.workers worker)

abbrev pub is_script : Event → Bool
is_script Script = true
is_script (Begin worker slot) = false
is_script (End worker) = false
