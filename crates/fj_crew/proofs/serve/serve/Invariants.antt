use Rattle.std.proofs.Common.{◌≡◌, ◌≤◌, true, false, length}
use Rattle.fj_world.specs.Conduct.{IsDueAsk, KeepsTo}
use Rattle.fj_world.specs.Giving.{GivesOf}
use Rattle.fj_world.specs.declared.ask.Ask.TheVariants.{Finished}
use Rattle.fj_world.specs.Leading.{LeadsTo}
use Rattle.fj_world.specs.Plain.{asked_next}
use Rattle.fj_crew.specs.Seats.{Paired}
use Rattle.fj_crew.specs.Team.{AllServe}
use Rattle.fj_crew.specs.Fits.{SeatsSame, OwesAsSaid, FewJobs, AllAnswered, SomeTold, Begun, CrewGoes, CrewGaveUp}
use Rattle.fj_crew.proofs.serve.serve.Given as goal

abbrev pub invariant-loop-slot : goal.invariant-loop-slot
invariant-loop-slot g l = record {
  due : IsDueAsk (g.S.Script.conduct.due l.script) l.hand;
  keeps_to : KeepsTo g.S.Script.conduct l.script l.hand;
  gives : GivesOf g.S.Script.gives l.script l.hand;
  ends : g.S.Script.conduct.over l.script ≡ true → l.hand ≡ Finished;
  uses : g.S.Script.conduct.uses l.script ≤ length l.seats.items;
  as_many : g.S.Script.conduct.uses l.script ≡ g.S.Script.conduct.uses l.fn.script;
  few : FewJobs g.S.Script.conduct l.script l.seats.items;
  owed : OwesAsSaid g.S.Script.conduct l.script l.seats.items;
  paired : Paired l.queues.items l.seats.items;
  serves : AllServe l.queues.items l.own.items;
  same : SeatsSame l.fn.seats.items l.seats.items;
  answered : AllAnswered l.fn.seats.items → g.S.Script.conduct.over l.script ≡ false → AllAnswered l.seats.items;
  stopped : g.S.Script.conduct.stopped l.fn.script ≡ false → g.S.Script.conduct.stopped l.script ≡ true → (g.S.Script.conduct.over l.script ≡ true) × SomeTold l.seats.items;
  leads : LeadsTo g.S.Script.conduct.leads l.fn.script l.script;
  goes : (b : Begun g.S.Gear.Engine.meaning g.S.Script.conduct l.fn.script l.fn.seats.items)
      → CrewGoes g.S.Gear.Engine.meaning g.S.Script.conduct (g.S.Script.conduct.stopped l.fn.script) (AllAnswered l.fn.seats.items) (asked_next g.S.Gear.Engine.meaning g.S.Script.conduct b.state b.slots) (g.S.Script.conduct.left l.fn.script) l.script l.hand l.seats.items;
  gave_up : (b : Begun g.S.Gear.Engine.meaning g.S.Script.conduct l.fn.script l.fn.seats.items) → g.S.Script.conduct.over l.fn.script ≡ false → g.S.Script.conduct.over l.script ≡ true
      → CrewGaveUp g.S.Gear.Engine.meaning g.S.Script.conduct (AllAnswered l.fn.seats.items) (g.S.Script.conduct.left l.fn.script) b.state b.slots l.fn.script l.script l.seats.items;
}

abbrev pub decreases-loop-slot : goal.decreases-loop-slot
decreases-loop-slot g l = g.S.Script.conduct.left l.script
