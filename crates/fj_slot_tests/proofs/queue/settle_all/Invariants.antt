use Rattle.std.proofs.Common.{◌≡◌}
use Rattle.fj_queue.specs.Knows.{knows}
use Rattle.fj_slot_tests.proofs.queue.settle_all.Given as goal

abbrev pub invariant-loop-number : goal.invariant-loop-number
invariant-loop-number g l = record {
  own : l.submitter.seat.table_id ≡ l.initial.submitter.seat.table_id;
  sent : (knows l.submitter).sent ≡ l.jobs;
  heard : (knows l.submitter).heard ≡ l.number;
  hands : (knows l.submitter).hands ≡ (knows l.initial.submitter).hands;
}
