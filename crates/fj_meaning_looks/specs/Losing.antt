-- Where a script stood, in the run of the deck, before the call by which it was over in a stretch.
use Rattle.std.specs.Prelude.{◌≡◌, ◌≢◌, ◌⊎◌, ℕ, Bool, true, false, List, Some}
use Rattle.fj_slot.specs.Serving.{Meaning}
use Rattle.fj_world.specs.declared.ask.Ask.TheVariants.{Finished}
use Rattle.fj_world.specs.Conduct.{Idle, IsDueAsk}
use Rattle.fj_world.specs.Leading.{LeadsTo}
use Rattle.fj_world.specs.Losing.{SlotsHold, HasAsked, WasLost}
use Rattle.fj_world.specs.Plain.{PlainSlot}
use Rattle.fj_world.specs.Rack.{Rack}
use Rattle.fj_bay.specs.Bay.{Bay}
use Rattle.fj_bay.specs.Jobs.{Job, Answer}
use Rattle.fj_meaning.specs.Statement.{Stated}
use Rattle.fj_meaning_turns.specs.Passing.{passes}
use Rattle.fj_meaning_turns.specs.Run.{Run}
use Rattle.fj_meaning_turns.specs.Serving.{over_bays, Shows, run_conduct}
use Rattle.fj_meaning_looks.specs.Looking.{stretch_conduct}
use Rattle.fj_meaning_looks.specs.Stretches.{with_rest, runs, before, Between}

module _ {E J A S : Type 0} (m : Meaning E J A Bay Job Answer) (s : Shows S) where
  -- Before the call by which the script was over it was a run to which that of the deck comes by passing statements, from before the ask
  -- of that number; or it stood at that ask.
  pub record WasLostIn (first : Run) (qs0 : List (PlainSlot Bay Job)) (deck : List Stated) (began last : S) (rack : Rack E J A) : Type 0 where
    pub script : S
    pub gone : S
    pub led : LeadsTo s.leads began script
    pub going : s.over script ≡ false
    pub leads : s.leads script gone
    pub over : s.over gone ≡ true
    pub rests : LeadsTo s.leads gone last
    pub asks : ℕ
    pub at : Run
    pub count : ℕ
    pub passed : passes count (before m s asks (with_rest deck first) qs0).0 ≡ Some at
    pub stood : (HasAsked (over_bays m) (run_conduct s) asks (with_rest deck first) qs0 × (s.state script ≡ Some at) × (s.due script ≡ Idle))
        ⊎ (let x = runs m s asks (with_rest deck first) qs0 in (x.hand ≢ Finished) × (s.state script ≡ Some x.script) × IsDueAsk (s.due script) x.hand)
    pub slots : SlotsHold (over_bays m) (before m s asks (with_rest deck first) qs0).1 rack

module _ {E J A S : Type 0} (m : Meaning E J A Bay Job Answer) (s : Shows S) (looks : Stated → Run → Bool) where
  abbrev pub LossesFollow : Type 0
  LossesFollow = (first : Run) (qs0 : List (PlainSlot Bay Job)) (deck : List Stated) (r : Run) (qs : List (PlainSlot Bay Job)) (began last : S) (rack : Rack E J A) →
      Between m s first qs0 deck r qs → WasLost (over_bays m) (stretch_conduct looks s) r qs began last rack → WasLostIn m s first qs0 deck began last rack
