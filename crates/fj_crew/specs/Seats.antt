-- What the steps on queues change of their submitters.
use Rattle.std.specs.Prelude.{◌≡◌, ℕ, ◌+◌, List, length, Some, Result, Ok, Err, slice_get, slice_set}
use Rattle.fj_slot.specs.declared.told.Told.{Told}
use Rattle.fj_slot.specs.declared.told.Refused.{Refused}
use Rattle.fj_slot.specs.Serving.{Meaning}
use Rattle.fj_queue.specs.declared.view.View.{View}
use Rattle.fj_queue.specs.declared.seats.QueueOf.{QueueOf}
use Rattle.fj_queue.specs.declared.seats.SubmitterOf.{SubmitterOf}
use Rattle.fj_queue.specs.Knows.{knows, IsOf}
use Rattle.fj_queue.specs.Answers as answers
use Rattle.fj_queue.specs.Tokens.{Numbers, Keeps}

-- what a submit makes of what a submitter knows
abbrev pub Sends : {E J T : Type 0} → View E T → Result ℕ (Refused J) → View E T → Type 0
Sends v (Ok n) w = (n ≡ v.sent) × Keeps v w (v.sent + 1) v.heard v.hands
Sends v (Err refused) w = Keeps v w v.sent v.heard v.hands

module _ {C E T : Type 0} where
  -- what the submitter at that place knows
  abbrev pub SeatAt : List (SubmitterOf C E T) → ℕ → (View E T → Type 0) → Type 0
  SeatAt seats at P = (s : SubmitterOf C E T) → slice_get seats at ≡ Some s → P (knows s)

  -- each submitter is of the queue at its place
  pub record Paired {L : Type 0} (queues : List (QueueOf C E T L)) (seats : List (SubmitterOf C E T)) : Type 0 where
    pub same : length queues ≡ length seats
    pub own : (k : ℕ) (q : QueueOf C E T L) (s : SubmitterOf C E T) → slice_get queues k ≡ Some q → slice_get seats k ≡ Some s → IsOf q s

  pub record Submits {J : Type 0} (old : List (SubmitterOf C E T)) (at : ℕ) (result : Result ℕ (Refused J)) (new : List (SubmitterOf C E T)) : Type 0 where
    pub seat : SubmitterOf C E T
    pub after : new ≡ slice_set old at seat
    pub sends : SeatAt old at (λ v. Sends v result (knows seat))

  pub record Settles {J A S R : Type 0} (m : Meaning E J A S T R) (old : List (SubmitterOf C E T)) (at : ℕ) (it : Told E J A S T R) (new : List (SubmitterOf C E T)) : Type 0 where
    pub seat : SubmitterOf C E T
    pub after : new ≡ slice_set old at seat
    pub numbers : SeatAt old at (λ v. Numbers v (knows seat) v.sent (v.heard + 1) v.hands)
    pub told : SeatAt old at (λ v. answers.Settles m v (knows seat) it)
