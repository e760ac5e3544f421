-- When submitters fit a script served alone, and the plans of their queues.
use Rattle.std.specs.Prelude.{◌≡◌, ◌≢◌, ◌⊎◌, ℕ, ◌+◌, ◌<◌, ◌≤◌, ◌^◌, Bool, true, false, List, length, Some, None, slice_get}
use Rattle.fj_slot.specs.Serving.{Meaning}
use Rattle.fj_world.specs.declared.ask.Ask.{Ask}
use Rattle.fj_world.specs.declared.ask.Ask.TheVariants.{Settle}
use Rattle.fj_world.specs.Conduct.{Conduct, Idle, IsAsk}
use Rattle.fj_world.specs.Plain.{Plain, PlainSlot, asked_next, after}
use Rattle.fj_world.specs.Losing.{before_ask, GaveUp}
use Rattle.fj_queue.specs.declared.view.View.{View}
use Rattle.fj_queue.specs.declared.view.Agenda.{Agenda}
use Rattle.fj_queue.specs.declared.seats.SubmitterOf.{SubmitterOf}
use Rattle.fj_queue.specs.Knows.{knows}

-- the submitter has submitted the slot's jobs; while the script is not over, it was told as often
pub record SeatFits {G P T : Type 0} (over : Bool) (q : PlainSlot P T) (v : View G T) : Type 0 where
  pub sent : v.sent ≡ length q.jobs
  pub heard : over ≡ false → v.heard ≡ q.told

-- each job of the slot that was told is done, as the submitter knows: so far all are, or it was told a stop, and that stands behind them
abbrev pub HasReached : {G P T : Type 0} → PlainSlot P T → View G T → Type 0
HasReached q v = ((v.answered ≡ true) × (q.told ≤ v.heard)) ⊎ ((v.stopped ≢ 0) × (q.told ≤ v.stopped_at))

-- so it is of each
abbrev pub AllReached : {C G P T : Type 0} → List (PlainSlot P T) → List (SubmitterOf C G T) → Type 0
AllReached {C} {G} {P} {T} qs seats = (k : ℕ) (q : PlainSlot P T) (s : SubmitterOf C G T) → slice_get qs k ≡ Some q → slice_get seats k ≡ Some s → HasReached q (knows s)

-- each submitter has submitted as many jobs as the plain slot has; level: each job told before the run was done
pub record SeatsHold {C G P T : Type 0} (level : Type 0) (qs : List (PlainSlot P T)) (seats : List (SubmitterOf C G T)) : Type 0 where
  pub same : length qs ≡ length seats
  pub sent : (k : ℕ) (q : PlainSlot P T) (s : SubmitterOf C G T) → slice_get qs k ≡ Some q → slice_get seats k ≡ Some s → (knows s).sent ≡ length q.jobs
  pub reached : level → AllReached qs seats

module _ {C G T : Type 0} where
  -- no queue's plan has jobs
  abbrev pub NoJobs : List (SubmitterOf C G T) → Type 0
  NoJobs seats = (k : ℕ) (s : SubmitterOf C G T) (it : Agenda G T) → slice_get seats k ≡ Some s → (knows s).plan ≡ Some it → it.jobs ≡ None

  -- each has the plan and the hands that it had, and has submitted and was told no less
  pub record SeatsSame (old new : List (SubmitterOf C G T)) : Type 0 where
    pub long : length new ≡ length old
    pub each : (k : ℕ) (w : SubmitterOf C G T) → slice_get new k ≡ Some w
        → (s : SubmitterOf C G T) × (slice_get old k ≡ Some s) × ((knows w).plan ≡ (knows s).plan) × ((knows w).hands ≡ (knows s).hands)
        × ((knows s).sent ≤ (knows w).sent) × ((knows s).heard ≤ (knows w).heard)

  -- each slot that the script uses has as many jobs not told as the script says
  abbrev pub OwesAsSaid : {S R : Type 0} → Conduct S T R → S → List (SubmitterOf C G T) → Type 0
  OwesAsSaid c script seats = (k : ℕ) (s : SubmitterOf C G T) → k < c.uses script → slice_get seats k ≡ Some s → (knows s).heard + c.owed script k ≡ (knows s).sent

  -- so few jobs are submitted
  abbrev pub FewJobs : {S R : Type 0} → Conduct S T R → S → List (SubmitterOf C G T) → Type 0
  FewJobs c script seats = (k : ℕ) (s : SubmitterOf C G T) → slice_get seats k ≡ Some s → (knows s).sent + c.left script < 2 ^ 62

  -- the script may be served again: no ask is due, it uses as many slots, and few jobs are submitted
  pub record SeatsGoOn {S R : Type 0} (c : Conduct S T R) (old new : S) (seats : List (SubmitterOf C G T)) : Type 0 where
    pub idle : c.due new ≡ Idle
    pub uses : c.uses new ≡ c.uses old
    pub few : FewJobs c new seats

  -- each job that was told is done
  abbrev pub AllAnswered : List (SubmitterOf C G T) → Type 0
  AllAnswered seats = (k : ℕ) (s : SubmitterOf C G T) → slice_get seats k ≡ Some s → (knows s).answered ≡ true

  -- some submitter was told a stop
  pub record SomeTold (seats : List (SubmitterOf C G T)) : Type 0 where
    pub at : ℕ
    pub seat : SubmitterOf C G T
    pub found : slice_get seats at ≡ Some seat
    pub told : (knows seat).stopped ≢ 0

module _ {S C G J A P T R : Type 0} (m : Meaning G J A P T R) (c : Conduct S T R) where
  -- the plan of each queue has the slot's starting engine, and the jobs that the slot has after so many entries of the script served alone
  pub record Planned (p : Plain P c) (most : ℕ) (seats : List (SubmitterOf C G T)) : Type 0 where
    pub same : length p.slots ≡ length seats
    pub plans : (k : ℕ) (s : SubmitterOf C G T) (q : PlainSlot P T) → slice_get seats k ≡ Some s → slice_get (after m c most p).slots k ≡ Some q
        → (it : Agenda G T) × ((knows s).plan ≡ Some it) × (it.jobs ≡ Some q.jobs) × (m.state it.start ≡ Some q.start)

  -- the script and the slots tell, and each queue has its plan
  pub record Begun (script : S) (seats : List (SubmitterOf C G T)) : Type 0 where
    pub state : c.State
    pub slots : List (PlainSlot P T)
    pub told : c.state script ≡ Some state
    pub planned : Planned (asked_next m c state slots) (c.left script) seats
    pub fits : (k : ℕ) (q : PlainSlot P T) (s : SubmitterOf C G T) → slice_get slots k ≡ Some q → slice_get seats k ≡ Some s → SeatFits false q (knows s)

  -- a stop was told where the plain script awaited an answer, and that slot's submitter knows it; level: each job told before the run was done
  pub record CrewStopped (level : Type 0) (p : Plain P c) (script : S) (seats : List (SubmitterOf C G T)) : Type 0 where
    pub over : c.over script ≡ true
    pub state : c.state script ≡ Some p.script
    pub slot : ℕ
    pub hand : p.hand ≡ Settle slot
    pub halted : (q : PlainSlot P T) (s : SubmitterOf C G T) → slice_get p.slots slot ≡ Some q → slice_get seats slot ≡ Some s
        → ((knows s).stopped ≢ 0) × ((knows s).stopped_at ≤ q.told) × (level → q.told ≤ (knows s).stopped_at)

  -- the script is the plain one, with its ask at hand, unless it is over; and the submitters fit; was: it was told a stop before the run
  pub record CrewFits (was : Bool) (level : Type 0) (p : Plain P c) (script : S) (hand : Ask J) (seats : List (SubmitterOf C G T)) : Type 0 where
    pub script_is : c.over script ≡ false → (c.state script ≡ Some p.script) × IsAsk m p.hand hand
    pub stop : was ≡ false → c.stopped script ≡ true → CrewStopped level p script seats
    pub same : length p.slots ≡ length seats
    pub slots : (k : ℕ) (q : PlainSlot P T) (s : SubmitterOf C G T) → slice_get p.slots k ≡ Some q → slice_get seats k ≡ Some s → SeatFits (c.over script) q (knows s)
    pub reached : level → AllReached p.slots seats

  -- after some entries, which leave the script enough
  pub record CrewGoes (was : Bool) (level : Type 0) (p : Plain P c) (most : ℕ) (script : S) (hand : Ask J) (seats : List (SubmitterOf C G T)) : Type 0 where
    pub entries : ℕ
    pub few : entries + c.left script ≤ most
    pub fits : CrewFits was level (after m c entries p) script hand seats

  -- The script is over since one call, for which it had asks enough, and the submitters have submitted the jobs until then.
  pub record CrewGaveUp (level : Type 0) (most : ℕ) (s : c.State) (qs : List (PlainSlot P T)) (first last : S) (seats : List (SubmitterOf C G T)) : Type 0 where
    pub asks : ℕ
    pub few : asks ≤ most
    pub call : GaveUp m c asks s qs first last
    pub slots : SeatsHold level (before_ask m c asks s qs).1 seats
