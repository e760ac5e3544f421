use Rattle.std.proofs.Common.{◌≡◌}
use Rattle.fj_queue.specs.Inside.{IsSame}
use Rattle.fj_queue.proofs.asks.QueueOf+Slot+E+E+E+Task+Law+E.settle.Given as goal

abbrev pub invariant-loop : goal.invariant-loop
invariant-loop g l = record {
  own : l.s.seat.table_id ≡ l.initial.s.seat.table_id;
  same : IsSame l.initial.s.seat.me.0 l.s.seat.me.0;
}
