-- What an event that is enabled does to the script, to the slots and to the workers.
use Rattle.std.specs.Prelude.{◌≡◌, ℕ, true, length, Some, None, slice_get, slice_set, Result, IfOk, IfErr, OnErr}
use Rattle.fj_outside.specs.declared.errors.Stop.{Stop}
use Rattle.fj_slot.specs.declared.told.Refused.{Refused}
use Rattle.fj_slot.specs.declared.told.Told.{Told}
use Rattle.fj_slot.specs.Causes.{HasCause}
use Rattle.fj_slot.specs.Ledger.{Ledger, with_job, with_out, with_answer, with_halt, with_tell, can_begin, can_tell}
use Rattle.fj_slot.specs.Serving.{Meaning, Serves}
use Rattle.fj_slot.specs.Telling as telling
use Rattle.fj_world.specs.declared.ask.Ask.{Ask}
use Rattle.fj_world.specs.declared.ask.Ask.TheVariants.{Submit, Settle, Finished}
use Rattle.fj_world.specs.declared.busy.Busy.{Busy}
use Rattle.fj_world.specs.declared.event.Event.{Event}
use Rattle.fj_world.specs.declared.event.Event.TheVariants.{Script, Begin, End}
use Rattle.fj_world.specs.Conduct.{Conduct, Asks, Takes, Tells}
use Rattle.fj_world.specs.Scene.{Scene}

-- the job is appended to its slot and the script takes its number; or it is refused, and the script takes that
pub record Submits {S G J A P T R : Type 0} (m : Meaning G J A P T R) (c : Conduct S T R) (at : ℕ) (job : J) (old new : Scene S G J A P T R) : Type 0 where
  pub ledger : Ledger G J A
  pub found : slice_get old.rack.slots at ≡ Some ledger
  pub number : Result ℕ (Refused J)
  pub counts : IfOk number (λ n. n ≡ length ledger.jobs)
  pub after : IfOk number (λ _. new.rack.slots ≡ slice_set old.rack.slots at (with_job ledger job))
  pub refused : IfErr number (λ r. r.job ≡ job)
  pub same : OnErr number (new.rack ≡ old.rack)
  pub script : S
  pub takes : Takes c old.script number script
  pub asks : Asks m c script new.hand new.script
  pub workers : new.workers ≡ old.workers

-- the slot's next job is told to the script
pub record TellsNext {S G J A P T R : Type 0} (m : Meaning G J A P T R) (c : Conduct S T R) (at : ℕ) (old new : Scene S G J A P T R) : Type 0 where
  pub ledger : Ledger G J A
  pub found : slice_get old.rack.slots at ≡ Some ledger
  pub ready : can_tell ledger ≡ true
  pub told : Told G J A P T R
  pub tells : telling.Tells ledger told
  pub after : new.rack.slots ≡ slice_set old.rack.slots at (with_tell ledger)
  pub script : S
  pub hears : Tells m c old.script told script
  pub asks : Asks m c script new.hand new.script
  pub workers : new.workers ≡ old.workers

abbrev pub ServesAsk : {S G J A P T R : Type 0} → (m : Meaning G J A P T R) (c : Conduct S T R) → Ask J → Scene S G J A P T R → Scene S G J A P T R → Type 0
ServesAsk m c (Submit at job) old new = Submits m c at job old new
ServesAsk m c (Settle at) old new = TellsNext m c at old new
ServesAsk m c Finished old new = ⊥

-- the worker holds the slot's engine and its first job that was not begun
pub record BeginsJob {S G J A P T R : Type 0} (worker at : ℕ) (old new : Scene S G J A P T R) : Type 0 where
  pub ledger : Ledger G J A
  pub found : slice_get old.rack.slots at ≡ Some ledger
  pub may : can_begin ledger ≡ true
  pub busy : Busy G J A P T R
  pub slot : busy.slot ≡ at
  pub number : busy.out.number ≡ ledger.done
  pub engine : ledger.home ≡ Some busy.out.engine
  pub job : slice_get ledger.jobs ledger.done ≡ Some busy.out.job
  pub after : new.rack.slots ≡ slice_set old.rack.slots at (with_out ledger)
  pub workers : new.workers ≡ slice_set old.workers worker (Some busy)
  pub script : new.script ≡ old.script
  pub hand : new.hand ≡ old.hand

-- the worker performs the job that it holds, and its slot gets the engine back with what came of it
pub record EndsJob {S G J A P T R : Type 0} (m : Meaning G J A P T R) (worker : ℕ) (old new : Scene S G J A P T R) : Type 0 where
  pub busy : Busy G J A P T R
  pub holds : slice_get old.workers worker ≡ Some (Some busy)
  pub ledger : Ledger G J A
  pub found : slice_get old.rack.slots busy.slot ≡ Some ledger
  pub engine : G
  pub job : J
  pub got : Result A Stop
  pub serves : (s : P) (t : T) → m.state busy.out.engine ≡ Some s → m.task busy.out.job ≡ Some t → Serves m s t got engine job
  pub cause : HasCause (m.faults busy.out.engine) (m.faults engine) got
  pub done : IfOk got (λ answer. new.rack.slots ≡ slice_set old.rack.slots busy.slot (with_answer ledger engine job answer))
  pub stopped : IfErr got (λ stop. new.rack.slots ≡ slice_set old.rack.slots busy.slot
      (with_halt ledger engine (record { stop = stop; before = m.faults busy.out.engine; after = m.faults engine })))
  pub workers : new.workers ≡ slice_set old.workers worker None
  pub script : new.script ≡ old.script
  pub hand : new.hand ≡ old.hand

-- the world after an event that was enabled
abbrev pub Happens : {S G J A P T R : Type 0} → (m : Meaning G J A P T R) (c : Conduct S T R) → Event → Scene S G J A P T R → Scene S G J A P T R → Type 0
Happens m c Script old new = ServesAsk m c old.hand old new
Happens m c (Begin worker slot) old new = BeginsJob worker slot old new
Happens m c (End worker) old new = EndsJob m worker old new
