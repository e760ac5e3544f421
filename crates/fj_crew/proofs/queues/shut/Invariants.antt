use Rattle.std.proofs.Common.{◌≡◌, ◌+◌, ◌≤◌, length}
use Rattle.fj_crew.specs.Seats.{Paired}
use Rattle.fj_crew.specs.Plan.{ShutSoFar, NoHands}
use Rattle.fj_crew.proofs.queues.shut.Given as goal

abbrev pub invariant-loop-queue : goal.invariant-loop-queue
invariant-loop-queue g l = record {
  so_far : ShutSoFar g.E.Engine.meaning l.fn.slots.slots l.fn.seats.items l.seats.items l.slots.slots;
  paired : Paired l.queues.items l.seats.items;
  hands : NoHands l.seats.items;
  room : length l.seats.items ≤ l.slots.spare;
  spare : l.slots.spare + length l.fn.seats.items ≡ l.fn.slots.spare + length l.seats.items;
}

abbrev pub decreases-loop-queue : goal.decreases-loop-queue
decreases-loop-queue g l = length l.queues.items
