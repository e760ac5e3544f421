-- What telling a job answers.
use Rattle.std.specs.Prelude.{◌≡◌, ◌<◌, ◌≤◌, Some, slice_get}
use Rattle.fj_outside.specs.Faults.{Rose}
use Rattle.fj_outside.specs.declared.errors.Stop.TheVariants.{Failed}
use Rattle.fj_slot.specs.declared.told.Told.{Told}
use Rattle.fj_slot.specs.declared.told.Told.TheVariants.{Done, Stopped}
use Rattle.fj_slot.specs.Ledger.{Ledger}

-- The job's answer, or the slot's stop for the job that stopped and those after it. A job behind the stop
-- comes back as it was submitted.
abbrev pub Tells : {E J A S T R : Type 0} → Ledger E J A → Told E J A S T R → Type 0
Tells l (Done job answer) = (l.told < l.done) × (slice_get l.answers 0 ≡ Some (job, answer))
Tells l (Stopped job stop before after) =
    (l.done ≤ l.told) × (l.halt ≡ Some (record { stop = stop; before = before; after = after }))
    × (stop ≡ Failed → Rose before after) × (l.done < l.told → slice_get l.jobs l.told ≡ Some job)
