use Rattle.std.proofs.Common.{◌≡◌, ◌+◌, ◌≤◌, length}
use Rattle.std.specs.VecDeque.{deque_capacity}
use Rattle.fj_world.specs.Alone.{AllHome}
use Rattle.fj_crew.specs.Seats.{Paired}
use Rattle.fj_crew.specs.Plan.{Opened, NoHands}
use Rattle.fj_crew.proofs.queues.open.Given as goal

abbrev pub invariant-loop-slot : goal.invariant-loop-slot
invariant-loop-slot g l = record {
  opened : Opened g.plans l.fn.slots.slots l.slots.slots l.seats.items;
  paired : Paired l.queues.items l.seats.items;
  hands : NoHands l.seats.items;
  at_is : l.at ≡ length l.slots.slots;
  spare : l.slots.spare ≡ l.fn.slots.spare + length l.seats.items;
  home : AllHome l.slots;
  room : length l.slots.slots + length l.seats.items ≤ deque_capacity l.seats;
  room_too : length l.slots.slots + length l.queues.items ≤ deque_capacity l.queues;
}

abbrev pub decreases-loop-slot : goal.decreases-loop-slot
decreases-loop-slot g l = length l.slots.slots

abbrev pub ghost-resume_at : goal.ghost-resume_at
ghost-resume_at g a = g.plans a.at
