-- How a seat stands while it has the cell.
use Rattle.std.specs.Prelude.{◌≡◌, ◌+◌, ◌*◌, ℕ, true, false, [], Some, None}
use Rattle.fj_slot.specs.Serving.{Meaning}
use Rattle.fj_slot.specs.Ledger.{Ledger}
use Rattle.fj_queue.specs.Cell.{progress, submitted, told}
use Rattle.fj_slot.specs.Ledger.{IsSized}
use Rattle.fj_queue.specs.Cell.{IsFor, stop_code}
use Rattle.fj_slot.specs.declared.told.Told.{Told}
use Rattle.fj_queue.specs.declared.view.View.{View}
use Rattle.fj_queue.specs.Rule.{is_live}
use Rattle.fj_queue.specs.Steps.{Mine, Carries}
use Rattle.fj_queue.specs.Answers.{Settles}

module _ {E T : Type 0} where
  -- the view after a turn
  abbrev pub left : View E T → View E T
  left v = record v { holds = false; out = false }

  -- what no call of another's changes
  pub record IsSame (v w : View E T) : Type 0 where
    pub plan : w.plan ≡ v.plan
    pub sends : w.sends ≡ v.sends
    pub works : w.works ≡ v.works
    pub sent : w.sent ≡ v.sent
    pub heard : w.heard ≡ v.heard
    pub hands : w.hands ≡ v.hands
    pub answered : w.answered ≡ v.answered
    pub stopped : w.stopped ≡ v.stopped
    pub stopped_at : w.stopped_at ≡ v.stopped_at

module _ {E J A T : Type 0} where
  -- the view with the cell in hand, in a turn that began after v
  abbrev pub entered : View E T → Ledger E J A → View E T
  entered v c = record v { holds = true; out = true; turns = v.turns + 1; submissions = Some (submitted c); progress = Some (progress c); tells = Some (told c); stop = Some (stop_code c.halt) }

module _ {E J A S T R : Type 0} (mean : Meaning E J A S T R) where
  -- the seat has the cell c in hand, and may put it back
  pub record IsInside (m : Mine E J A T) (c : Ledger E J A) : Type 0 where
    pub carried : Carries m c
    pub holds : m.0.holds ≡ true
    pub out : m.0.out ≡ true
    pub submissions : m.0.submissions ≡ Some (submitted c)
    pub progress_is : m.0.progress ≡ Some (progress c)
    pub tells : m.0.tells ≡ Some (told c)
    pub stop : m.0.stop ≡ Some (stop_code c.halt)
    pub sized : IsSized c
    pub sound : IsFor mean m.0.plan c

  -- the seat has the cell c in hand, of which a job was begun in this turn and is not counted yet
  pub record Began (m : Mine E J A T) (c : Ledger E J A) : Type 0 where
    pub carried : Carries m c
    pub live : is_live m.0 ≡ true
    pub holds : m.0.holds ≡ true
    pub out : m.0.out ≡ true
    pub submissions : m.0.submissions ≡ Some (submitted c)
    pub progress_is : m.0.progress ≡ Some (2 * c.done)
    pub tells : m.0.tells ≡ Some (told c)
    pub stop : m.0.stop ≡ Some 0
    pub begun : c.home ≡ None
    pub going : c.halt ≡ None
    pub sized : IsSized c
    pub sound : IsFor mean m.0.plan c

-- the view of a seat that runs the job k, and after it
abbrev pub running : {E T : Type 0} → View E T → ℕ → View E T
running v k = record v { runs = Some k; progress = Some (2 * k + 1) }

abbrev pub ending : {E T : Type 0} → View E T → ℕ → View E T
ending v k = record v { runs = None; ended = v.ended + 1; progress = Some (2 * k + 2) }

-- the seat has the cell c in hand, and runs its job
pub record IsRunning {E J A S T R : Type 0} (mean : Meaning E J A S T R) (m : Mine E J A T) (c : Ledger E J A) : Type 0 where
  pub carried : Carries m c
  pub live : is_live m.0 ≡ true
  pub holds : m.0.holds ≡ true
  pub out : m.0.out ≡ true
  pub submissions : m.0.submissions ≡ Some (submitted c)
  pub tells : m.0.tells ≡ Some (told c)
  pub stop : m.0.stop ≡ Some 0
  pub runs : m.0.runs ≡ Some c.done
  pub is_out : c.home ≡ None
  pub going : c.halt ≡ None
  pub sized : IsSized c
  pub sound : IsFor mean m.0.plan c

-- the seat has let go of the cell, with one more tell
pub record TellsOne {E J A T : Type 0} (m n : Mine E J A T) : Type 0 where
  pub empty : n.1 ≡ []
  pub same : (n.0.plan ≡ m.0.plan) × (n.0.sends ≡ m.0.sends) × (n.0.works ≡ m.0.works) × (n.0.sent ≡ m.0.sent) × (n.0.hands ≡ m.0.hands) × (n.0.runs ≡ m.0.runs)
  pub rests : n.0.holds ≡ false
  pub home : n.0.out ≡ false
  pub heard : n.0.heard ≡ m.0.heard + 1

abbrev pub Tells : {E J A S T R : Type 0} → Meaning E J A S T R → Mine E J A T → Mine E J A T → Told E J A S T R → Type 0
Tells mean m n t = TellsOne m n × Settles mean m.0 n.0 t
