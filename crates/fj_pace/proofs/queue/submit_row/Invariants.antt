use Rattle.std.proofs.Common.{◌≡◌, ◌+◌, None}
use Rattle.fj_queue.specs.Knows.{knows}
use Rattle.fj_pace.proofs.queue.submit_row.Given as goal

abbrev pub invariant-loop-number : goal.invariant-loop-number
invariant-loop-number g l = record {
  own : l.submitter.seat.table_id ≡ l.initial.submitter.seat.table_id;
  sent : (knows l.submitter).sent ≡ l.sent + l.number;
  heard : (knows l.submitter).heard ≡ l.sent;
  hands : (knows l.submitter).hands ≡ (knows l.initial.submitter).hands;
  plan : (knows l.submitter).plan ≡ None;
}
