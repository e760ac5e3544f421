-- Stretches over real slots, in any order of events.
use Rattle.std.specs.Prelude.{◌≡◌, ◌⊎◌, ℕ, ◌≤◌, Bool, true, false, List, ◌∷◌, drop, Some, None, slice_set}
use Rattle.fj_statement.specs.declared.deck.Variable.{Variable}
use Rattle.fj_slot.specs.Serving.{Meaning}
use Rattle.fj_world.specs.Alone.{ServedAlone}
use Rattle.fj_world.specs.Rack.{Rack}
use Rattle.fj_meaning.specs.State.{Files}
use Rattle.fj_world.specs.declared.ask.Ask.{Ask}
use Rattle.fj_world.specs.declared.ask.Ask.TheVariants.{Finished}
use Rattle.fj_world.specs.Conduct.{Conduct, Asks}
use Rattle.fj_world.specs.Fits.{Fits, SlotsFit}
use Rattle.fj_world.specs.Plain.{Plain, PlainSlot, asked_next}
use Rattle.fj_world.specs.Scene.{Scene, IsOrderly}
use Rattle.fj_bay.specs.Bay.{Bay}
use Rattle.fj_bay.specs.Jobs.{Job, Answer}
use Rattle.fj_meaning.specs.Statement.{Stated}
use Rattle.fj_meaning_turns.specs.Run.{Run}
use Rattle.fj_meaning_turns.specs.Serving.{over_bays, Shows, run_conduct, first_run, fresh_slots}
use Rattle.fj_meaning_turns.specs.Meant.{Leaves}
use Rattle.fj_meaning_looks.specs.Looking.{stretch_conduct}
use Rattle.fj_meaning_looks.specs.Stretches.{with_rest, IsOver, runs, Between, stretch}

-- A script that has not stopped asks again, as what it is by then: the world goes on, with what its workers hold.
abbrev pub AsksAgain : {S G J A P T R : Type 0} → Meaning G J A P T R → Conduct S T R → Type 0
AsksAgain {S} {G} {J} {A} {P} {T} {R} m c = (p : Plain P c) (w : Scene S G J A P T R) (script new : S) (hand : Ask J) (state : c.State) →
    Fits m c p w → c.over w.script ≡ false → c.stopped script ≡ false → c.state script ≡ Some state → Asks m c script hand new →
    Fits m c (asked_next m c state p.slots) (record { start = w.start; script = new; hand = hand; rack = w.rack; workers = w.workers })

-- and stays orderly, where its numbers are as they were
abbrev pub StaysOrderly : {S G J A P T R : Type 0} → Meaning G J A P T R → Conduct S T R → Type 0
StaysOrderly {S} {G} {J} {A} {P} {T} {R} m c = (w : Scene S G J A P T R) (script new : S) (hand : Ask J) →
    IsOrderly m c w → c.left script ≤ c.left w.script → c.uses script ≡ c.uses w.script → Asks m c script hand new →
    IsOrderly m c (record { start = w.start; script = new; hand = hand; rack = w.rack; workers = w.workers })

-- the runner of a script that is not over
pub record IsRunner {S : Type 0} (s : Shows S) (script : S) (run : Run) : Type 0 where
  pub going : s.over script ≡ false
  pub state : s.state script ≡ Some run

module _ {E J A S : Type 0} (m : Meaning E J A Bay Job Answer) (s : Shows S) (looks : Stated → Run → Bool) where
  -- A world that finished with statements left and no ending: whatever statement is put in the place of the one at hand, the next stretch
  -- begins there, over slots that fit.
  abbrev pub WorldsGoOn : Type 0
  WorldsGoOn = (first : Run) (qs0 : List (PlainSlot Bay Job)) (deck : List Stated) (r : Run) (qs : List (PlainSlot Bay Job)) → Between m s first qs0 deck r qs →
      (n : ℕ) (w : Scene S E J A Bay Job Answer) (run : Run) → Fits (over_bays m) (stretch_conduct looks s) (stretch m s looks n r qs) w → w.hand ≡ Finished → IsRunner s w.script run →
      (place : ℕ) (st : Stated) (behind : List Stated) (mark : Stated) → run.ending ≡ None → run.rest ≡ st ∷ behind → drop place deck ≡ st ∷ behind →
      let put = slice_set deck place mark in let qs' = (stretch m s looks n r qs).slots in
      Between m s first qs0 put (with_rest (drop place put) run) qs' × SlotsFit (over_bays m) qs' w.rack

  -- A world whose script was told a stop, or whose run is over, fits the runner of the deck.
  abbrev pub WorldsEnd : Type 0
  WorldsEnd = (first : Run) (qs0 : List (PlainSlot Bay Job)) (deck : List Stated) (r : Run) (qs : List (PlainSlot Bay Job)) → Between m s first qs0 deck r qs →
      (n : ℕ) (w : Scene S E J A Bay Job Answer) → Fits (over_bays m) (stretch_conduct looks s) (stretch m s looks n r qs) w →
      (s.stopped w.script ≡ true) ⊎ ((run : Run) × IsRunner s w.script run × IsOver run) →
      (entries : ℕ) × Fits (over_bays m) (run_conduct s) (runs m s entries (with_rest deck first) qs0) w

  -- A deck was served alone in stretches, of which the last one is over: its runner leaves what the deck means, as it was put at last.
  abbrev pub StretchesLeaveResults : Type 0
  StretchesLeaveResults = (variables : List Variable) (old deck : List Stated) (files : Files) (r : Run) (qs : List (PlainSlot Bay Job)) (script : S) (rack : Rack E J A) (run : Run) →
      Between m s (first_run variables old files) fresh_slots deck r qs → ServedAlone (over_bays m) (stretch_conduct looks s) (stretch m s looks 0 r qs) script rack →
      IsRunner s script run → IsOver run → Leaves m variables deck files run rack
