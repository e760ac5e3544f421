-- What a submitter knows after a call, at the start and at the end.
use Rattle.std.specs.Prelude.{◌≡◌, ◌≢◌, ℕ, ◌≤◌, true, Option, is_some}
use Rattle.fj_queue.specs.declared.view.Agenda.{Agenda}
use Rattle.fj_slot.specs.Serving.{Meaning}
use Rattle.fj_slot.specs.Ledger.{Ledger}
use Rattle.fj_queue.specs.Cell.{submitted, told}
use Rattle.fj_slot.specs.Ledger.{IsSized}
use Rattle.fj_queue.specs.Cell.{IsFor}
use Rattle.fj_queue.specs.Cell.{stop_code}
use Rattle.fj_queue.specs.declared.view.View.{View}

-- the numbers of a submitter's view after a call
pub record Numbers {E T : Type 0} (v w : View E T) (sent heard hands : ℕ) : Type 0 where
  pub plan : w.plan ≡ v.plan
  pub sent_is : w.sent ≡ sent
  pub heard_is : w.heard ≡ heard
  pub hands_is : w.hands ≡ hands

-- the same, and what it knows of a stop
pub record Keeps {E T : Type 0} (v w : View E T) (sent heard hands : ℕ) : Type 0 where
  pub numbers : Numbers v w sent heard hands
  pub answered : w.answered ≡ v.answered
  pub stopped : w.stopped ≡ v.stopped
  pub stopped_at : w.stopped_at ≡ v.stopped_at

-- the submitter of a queue that begins with the slot c
pub record Begins {E J A T : Type 0} (p : Option (Agenda E T)) (c : Ledger E J A) (v : View E T) : Type 0 where
  pub plan : v.plan ≡ p
  pub sent_is : v.sent ≡ submitted c
  pub heard_is : v.heard ≡ told c
  pub hands_is : v.hands ≡ 0
  -- it knows whether each job that was told is done
  pub answered : told c ≤ c.done → v.answered ≡ true
  pub stopped : v.stopped ≡ 0

-- what the submitter knows at the end
pub record IsLast {E J A S T R : Type 0} (m : Meaning E J A S T R) (v : View E T) (c : Ledger E J A) : Type 0 where
  pub sized : IsSized c
  pub sound : IsFor m v.plan c
  pub jobs : submitted c ≡ v.sent
  pub told_is : told c ≡ v.heard
  pub home : is_some c.home ≡ true
  pub answered : v.answered ≡ true → told c ≤ c.done
  pub stopped : v.stopped ≢ 0 → (stop_code c.halt ≡ v.stopped) × (c.done ≡ v.stopped_at)
