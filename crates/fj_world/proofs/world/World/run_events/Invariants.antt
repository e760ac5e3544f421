use Rattle.std.proofs.Common.{◌≤◌}
use Rattle.fj_world.proofs.Running.{SoFar}
use Rattle.fj_world.proofs.world.World.run_events.Given as goal

abbrev pub invariant-loop-event : goal.invariant-loop-event
invariant-loop-event g l = record {
  count : l.count ≤ l.event-index;
  so_far : SoFar g.S.Gear.Engine.meaning g.S.Script.conduct l.events l.fn.self l.event-index l.count l.self;
}
