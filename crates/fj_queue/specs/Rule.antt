-- The rule of the table, over the words, the cell and all views.
use Rattle.std.specs.Prelude.{◌≡◌, ◌≢◌, ◌⊎◌, ◌||◌, ℕ, ◌+◌, ◌*◌, ◌%◌, ◌<◌, ◌≤◌, Bool, true, false, List, [], ◌∷◌, if◌then◌else◌, Option, Some, None}
use mathlib.Core.Option.{some}
use mathlib.Core.Option as maybe
use lib.ListN.{get_elem?}
use Rattle.atomic_table.specs.Table.{State}
use Rattle.fj_queue.specs.declared.view.Agenda.{Agenda}
use Rattle.fj_slot.specs.Serving.{Meaning}
use Rattle.fj_slot.specs.Ledger.{Ledger}
use Rattle.fj_queue.specs.Cell.{progress, submitted, told}
use Rattle.fj_slot.specs.Ledger.{IsSized}
use Rattle.fj_queue.specs.Cell.{IsFor, stop_code}
use Rattle.fj_queue.specs.declared.view.View.{View}
use Rattle.fj_queue.specs.declared.view.Start.{Start}

-- the words, and which seats hold the turn, submit and run
pub record Now : Type 0 where
  pub turn : ℕ
  pub subs : ℕ
  pub prog : ℕ
  pub tells : ℕ
  pub stop : ℕ
  pub holder : ℕ
  pub sender : ℕ
  pub runner : ℕ

-- each job that was told is done: one behind the stop is not
abbrev pub Level : Now → Type 0
Level n = (2 * n.tells ≤ n.prog) × (n.stop ≢ 0 → 2 * n.tells + 2 ≤ n.prog)

module _ {E T : Type 0} where
  -- a submitter's or a hand's
  abbrev pub is_live : View E T → Bool
  is_live v = v.sends || v.works

  -- what the view of the seat j has to do with the words
  pub record Fits (key : Option (Agenda E T)) (n : Now) (j : ℕ) (v : View E T) : Type 0 where
    pub plan : is_live v ≡ true → v.plan ≡ key
    pub holds : v.holds ≡ true → (n.turn ≡ 1) × (j ≡ n.holder) × (is_live v ≡ true)
    pub out : v.out ≡ true → v.holds ≡ true
    pub submissions : v.holds ≡ true → (k : ℕ) → v.submissions ≡ Some k → n.subs ≡ k
    pub progress : v.holds ≡ true → (k : ℕ) → v.progress ≡ Some k → n.prog ≡ k
    pub tells : v.holds ≡ true → (k : ℕ) → v.tells ≡ Some k → n.tells ≡ k
    pub stop : v.holds ≡ true → (k : ℕ) → v.stop ≡ Some k → n.stop ≡ k
    pub runs : (k : ℕ) → v.runs ≡ Some k → (j ≡ n.runner) × (n.prog ≡ 2 * k + 1) × (is_live v ≡ true)
    pub sends : v.sends ≡ true → (j ≡ n.sender) × (n.subs ≡ v.sent) × (n.tells ≡ v.heard)
    pub answered : v.sends ≡ true → v.answered ≡ true → Level n
    pub stopped : v.stopped ≢ 0 → (n.stop ≡ v.stopped) × (n.prog ≡ 2 * v.stopped_at + 2)

  abbrev pub hand_count : List (View E T) → ℕ
  hand_count [] = 0
  hand_count (v ∷ vs) = (if v.works then 1 else 0) + hand_count vs

  -- the seat i has a view of which P holds
  abbrev pub SeatIs : List (View E T) → ℕ → (View E T → Type 0) → Type 0
  SeatIs views i P = (v : View E T) × (get_elem? views i ≡ some v) × P v

  abbrev pub Holds : View E T → Type 0
  Holds v = v.holds ≡ true

  abbrev pub HasCell : View E T → Type 0
  HasCell v = v.out ≡ true

  abbrev pub Runs : View E T → Type 0
  Runs v = (k : ℕ) × (v.runs ≡ Some k)

  abbrev pub Submits : ℕ → View E T → Type 0
  Submits hands v = (v.sends ≡ true) × (v.works ≡ false) × (v.hands ≡ hands)

  -- the submitter's view at the start
  abbrev pub first_view : Start E T → View E T
  first_view key = record { plan = key.plan.value; sends = true; works = false; holds = false; out = false; turns = 0; submissions = None; progress = None; tells = None; stop = None; runs = None; ended = 0; sent = key.sent; heard = key.heard; hands = 0; answered = key.answered; stopped = 0; stopped_at = 0 }

  -- a hand's view at the start
  abbrev pub hand_view : Option (Agenda E T) → View E T
  hand_view key = record { plan = key; sends = false; works = true; holds = false; out = false; turns = 0; submissions = None; progress = None; tells = None; stop = None; runs = None; ended = 0; sent = 0; heard = 0; hands = 0; answered = false; stopped = 0; stopped_at = 0 }

  -- the view of a hand that was folded in
  abbrev pub nobody : View E T
  nobody = record (hand_view None) { works = false }

module _ {E J A S T R : Type 0} (m : Meaning E J A S T R) (key : Option (Agenda E T)) where
  -- a cell at home, or one that may be put there, under these words
  pub record IsCell (subs prog tells halt : ℕ) (c : Ledger E J A) : Type 0 where
    pub sized : IsSized c
    pub sound : IsFor m key c
    pub jobs : submitted c ≡ subs
    pub progress_is : progress c ≡ prog
    pub told_is : told c ≡ tells
    pub stop : stop_code c.halt ≡ halt

  -- the slot of the table holds a cell that may be there
  abbrev pub CellIs : Now → maybe.Option (Option (Ledger E J A)) → Type 0
  CellIs n cell = (c : Ledger E J A) × (cell ≡ some (Some c)) × IsCell n.subs n.prog n.tells n.stop c

  pub record Ruled (s : State (Option (Ledger E J A)) (View E T)) : Type 0 where
    pub now : Now
    pub cell : maybe.Option (Option (Ledger E J A))
    pub words : s.words ≡ now.turn ∷ now.subs ∷ now.prog ∷ now.tells ∷ now.stop ∷ []
    pub homes : s.homes ≡ cell ∷ []
    pub views : (j : ℕ) (v : View E T) → get_elem? s.views j ≡ some v → Fits key now j v
    -- the turn is 0, or its holder has it
    pub held : (now.turn ≡ 0) ⊎ SeatIs s.views now.holder Holds
    -- a job is out only where a seat runs it
    pub run : now.prog % 2 ≡ 1 → SeatIs s.views now.runner Runs
    -- no job is out after a stop
    pub no_job_behind : now.stop ≢ 0 → (now.prog % 2 ≡ 0) × (0 < now.prog)
    -- the cell is out with the holder, or at home
    pub home : SeatIs s.views now.holder HasCell ⊎ CellIs now cell
    pub submitter : SeatIs s.views now.sender (Submits (hand_count s.views))
