-- What remains of slots whose jobs were performed.
use Rattle.std.specs.Prelude.{◌≡◌, ℕ, Bool, true, List, length, Some, None, is_some, option_map, slice_get}
use Rattle.fj_connect.specs.Linked.{Linked, connection_of}
use Rattle.fj_slot.specs.Ledger.{Ledger}
use Rattle.fj_slot.specs.Serving.{Meaning}
use Rattle.fj_slot.specs.declared.stop.Halt.{Halt}
use Rattle.fj_world.specs.Alone.{ServesOn}
use Rattle.fj_bay.specs.Bay.{Bay as PlainBay}
use Rattle.fj_bay.specs.Jobs.{Job as PlainJob, Answer as PlainAnswer}
use Rattle.fj_bay.specs.declared.bay.Bay.{Bay}
use Rattle.fj_bay.specs.declared.job.Job.{Job}
use Rattle.fj_bay.specs.declared.job.Answer.{Answer}
use Rattle.fj_meaning_jobs.specs.Desks.{Desk}
use Rattle.fj_run_end.specs.declared.remains.Remains.{Remains}

-- The jobs of the slot were performed as far as it has not stopped. What remains is the connection of its bay, and what stopped it.
pub record IsWhatRemains {F : Type 0} (m : Meaning (Bay F) (Job F) Answer PlainBay PlainJob PlainAnswer) (l : Ledger (Bay F) (Job F) Answer) (it : Remains F) : Type 0 where
  pub ledger : Ledger (Bay F) (Job F) Answer
  pub serves : ServesOn m l ledger
  pub finished : ledger.halt ≡ None → ledger.done ≡ length ledger.jobs
  pub stopped : is_some l.halt ≡ true → ledger ≡ l
  pub bay : Bay F
  pub home : ledger.home ≡ Some bay
  pub connection : it.connection ≡ bay.connection
  pub stop : it.stop ≡ option_map (λ (h : Halt). h.stop) ledger.halt

-- where a slot did not stop, a connection that remains of it is the desk's
abbrev pub AreOfDesks : {F : Type 0} → (F → Bool) → (F → List ℕ) → List (Remains F) → List Desk → Type 0
AreOfDesks {F} told bytes all desks = (at : ℕ) (c : Linked F) (d : Desk) → slice_get all at ≡ Some (record { connection = Some c; stop = None }) → slice_get desks at ≡ Some d
    → (told c.file ≡ true) × (d.bay.connection ≡ Some (connection_of bytes c))
