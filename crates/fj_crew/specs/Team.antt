-- A worker's hands, and what hiring and dismissing change of the submitters.
use Rattle.std.specs.Prelude.{◌≡◌, ◌⊎◌, ◌+◌, ◌<◌, ◌≤◌, ℕ, true, false, List, length, Some, slice_get}
use Rattle.fj_slot.specs.Serving.{Meaning}
use Rattle.fj_world.specs.declared.ask.Ask.TheVariants.{Finished}
use Rattle.fj_world.specs.Conduct.{Conduct, Idle}
use Rattle.fj_world.specs.Leading.{LeadsTo}
use Rattle.fj_world.specs.Plain.{asked_next}
use Rattle.fj_queue.specs.declared.seats.SubmitterOf.{SubmitterOf}
use Rattle.fj_queue.specs.declared.seats.QueueOf.{QueueOf}
use Rattle.fj_queue.specs.declared.seats.HandOf.{HandOf}
use Rattle.fj_queue.specs.Knows.{knows, Serves}
use Rattle.fj_queue.specs.Tokens.{Keeps}
use Rattle.fj_crew.specs.Seats.{Paired}
use Rattle.fj_crew.specs.Fits.{NoJobs, SeatsSame, SeatsGoOn, OwesAsSaid, FewJobs, AllAnswered, SomeTold, Begun, CrewGoes, CrewGaveUp}

module _ {C E T L : Type 0} where
  -- each hand is of the queue at its place
  pub record AllServe (queues : List (QueueOf C E T L)) (team : List (HandOf C E T)) : Type 0 where
    pub same : length queues ≡ length team
    pub each : (k : ℕ) (q : QueueOf C E T L) (h : HandOf C E T) → slice_get queues k ≡ Some q → slice_get team k ≡ Some h → Serves q h

  -- these are hands of the queues from that place on
  pub record ServesFrom (at : ℕ) (queues : List (QueueOf C E T L)) (team : List (HandOf C E T)) : Type 0 where
    pub same : length queues ≡ at + length team
    pub each : (k : ℕ) (q : QueueOf C E T L) (h : HandOf C E T) → slice_get queues (at + k) ≡ Some q → slice_get team k ≡ Some h → Serves q h

  -- these are hands of the first queues
  abbrev pub ServesTo : List (QueueOf C E T L) → List (HandOf C E T) → Type 0
  ServesTo queues team = (k : ℕ) (q : QueueOf C E T L) (h : HandOf C E T) → slice_get queues k ≡ Some q → slice_get team k ≡ Some h → Serves q h

module _ {C E T : Type 0} where
  -- each submitter has so many hands
  abbrev pub HandsAre : ℕ → List (SubmitterOf C E T) → Type 0
  HandsAre n seats = (k : ℕ) (s : SubmitterOf C E T) → slice_get seats k ≡ Some s → (knows s).hands ≡ n

  -- each submitter is as it was, but for its hands
  pub record SeatsLike (old new : List (SubmitterOf C E T)) : Type 0 where
    pub long : length new ≡ length old
    pub each : (k : ℕ) (w : SubmitterOf C E T) → slice_get new k ≡ Some w
        → (s : SubmitterOf C E T) × (slice_get old k ≡ Some s) × Keeps (knows s) (knows w) (knows s).sent (knows s).heard (knows w).hands

  -- the hands of the first submitters have become so many, and the others are as they were
  pub record ChangedTo (f : ℕ → ℕ) (at : ℕ) (old new : List (SubmitterOf C E T)) : Type 0 where
    pub long : length new ≡ length old
    pub each : (k : ℕ) (w : SubmitterOf C E T) → slice_get new k ≡ Some w
        → (s : SubmitterOf C E T) × (slice_get old k ≡ Some s) × (k < at → Keeps (knows s) (knows w) (knows s).sent (knows s).heard (f (knows s).hands)) × (at ≤ k → w ≡ s)

module _ {S C G J A P T R L : Type 0} (m : Meaning G J A P T R) (c : Conduct S T R) where
  -- the script can be served by these queues
  pub record CanServe (queues : List (QueueOf C G T L)) (script : S) (seats : List (SubmitterOf C G T)) : Type 0 where
    pub idle : c.due script ≡ Idle
    pub uses : c.uses script ≤ length seats
    pub few : FewJobs c script seats
    pub owed : OwesAsSaid c script seats
    pub paired : Paired queues seats
    pub planned : NoJobs seats ⊎ Begun m c script seats

  -- it was served
  pub record HasServed (queues : List (QueueOf C G T L)) (script : S) (seats : List (SubmitterOf C G T)) (new : S) (seats' : List (SubmitterOf C G T)) : Type 0 where
    pub paired : Paired queues seats'
    pub same : SeatsSame seats seats'
    pub owed : OwesAsSaid c new seats'
    pub answered : AllAnswered seats → c.over new ≡ false → AllAnswered seats'
    pub stopped : c.stopped script ≡ false → c.stopped new ≡ true → SomeTold seats'
    pub again : SeatsGoOn c script new seats'
    pub leads : LeadsTo c.leads script new
    pub alone : (b : Begun m c script seats) → CrewGoes m c (c.stopped script) (AllAnswered seats) (asked_next m c b.state b.slots) (c.left script) new Finished seats'
    pub gave_up : (b : Begun m c script seats) → c.over script ≡ false → c.over new ≡ true → CrewGaveUp m c (AllAnswered seats) (c.left script) b.state b.slots script new seats'
