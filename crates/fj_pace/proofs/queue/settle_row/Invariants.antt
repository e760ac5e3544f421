use Rattle.std.proofs.Common.{◌≡◌, ◌+◌, None}
use Rattle.fj_queue.specs.Knows.{knows}
use Rattle.fj_pace.proofs.queue.settle_row.Given as goal

abbrev pub invariant-loop-number : goal.invariant-loop-number
invariant-loop-number g l = record {
  own : l.submitter.seat.table_id ≡ l.initial.submitter.seat.table_id;
  sent : (knows l.submitter).sent ≡ l.sent + l.ahead;
  heard : (knows l.submitter).heard ≡ l.sent + l.number;
  hands : (knows l.submitter).hands ≡ (knows l.initial.submitter).hands;
  plan : (knows l.submitter).plan ≡ None;
}
