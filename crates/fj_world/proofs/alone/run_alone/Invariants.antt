use Rattle.std.proofs.Common.{◌≡◌, ℕ, [], true, false, List, Some}
use Rattle.fj_world.specs.Giving.{GivesOf}
use Rattle.fj_world.specs.Scene.{IsOrderly}
use Rattle.fj_world.specs.Plain.{PlainSlot, asked_next, after}
use Rattle.fj_world.specs.Fits.{Fits, SlotsFit}
use Rattle.fj_world.specs.Leading.{LeadsTo}
use Rattle.fj_world.specs.Losing.{WasLost}
use Rattle.fj_world.specs.Alone.{AllHome, OwesAsSaid}
use Rattle.fj_world.specs.Keeping.{AllGoOn, AllCounted, SomeStopped}
use Rattle.fj_world.proofs.alone.run_alone.Given as goal

abbrev pub invariant-loop-slot : goal.invariant-loop-slot
invariant-loop-slot g l = record {
  orderly : IsOrderly g.S.Gear.Engine.meaning g.S.Script.conduct (record { start = l.script; script = l.script; hand = l.hand; rack = l.slots; workers = [] });
  gives : GivesOf g.S.Script.gives l.script l.hand;
  uses : g.S.Script.conduct.uses l.script ≡ g.S.Script.conduct.uses l.fn.script;
  owed : OwesAsSaid g.S.Script.conduct l.script l.slots;
  stopped : g.S.Script.conduct.stopped l.fn.script ≡ false → g.S.Script.conduct.stopped l.script ≡ true → SomeStopped l.slots;
  keeps : AllGoOn l.fn.slots l.slots;
  counted : AllCounted g.S.Gear.Engine.meaning l.fn.slots → AllCounted g.S.Gear.Engine.meaning l.slots;
  home : AllHome l.slots;
  leads : LeadsTo g.S.Script.conduct.leads l.fn.script l.script;
  fits : (s : g.S.Script.conduct.State) (qs : List (PlainSlot g.row.S-Gear-State.Denot g.row.S-Gear-Task.Denot)) → g.S.Script.conduct.state l.fn.script ≡ Some s
      → g.S.Script.conduct.stopped l.fn.script ≡ false → SlotsFit g.S.Gear.Engine.meaning qs l.fn.slots
      → (n : ℕ) × Fits g.S.Gear.Engine.meaning g.S.Script.conduct (after g.S.Gear.Engine.meaning g.S.Script.conduct n (asked_next g.S.Gear.Engine.meaning g.S.Script.conduct s qs)) (record { start = l.script; script = l.script; hand = l.hand; rack = l.slots; workers = [] });
  gave_up : (s : g.S.Script.conduct.State) (qs : List (PlainSlot g.row.S-Gear-State.Denot g.row.S-Gear-Task.Denot)) → g.S.Script.conduct.state l.fn.script ≡ Some s
      → g.S.Script.conduct.stopped l.fn.script ≡ false → g.S.Script.conduct.over l.fn.script ≡ false → SlotsFit g.S.Gear.Engine.meaning qs l.fn.slots → g.S.Script.conduct.over l.script ≡ true
      → WasLost g.S.Gear.Engine.meaning g.S.Script.conduct s qs l.fn.script l.script l.slots;
}

abbrev pub decreases-loop-slot : goal.decreases-loop-slot
decreases-loop-slot g l = g.S.Script.conduct.left l.script
