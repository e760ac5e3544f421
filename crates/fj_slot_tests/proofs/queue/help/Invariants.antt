use Rattle.std.proofs.Common.{◌≡◌}
use Rattle.fj_slot_tests.proofs.queue.help.Given as goal

abbrev pub invariant-loop : goal.invariant-loop
invariant-loop g l = l.hand.seat.table_id ≡ l.initial.hand.seat.table_id
