use Rattle.std.proofs.Common.{◌≡◌, ◌+◌, None}
use Rattle.fj_queue.specs.Knows.{knows}
use Rattle.fj_pace.proofs.queue.rows.Given as goal

abbrev pub invariant-loop : goal.invariant-loop
invariant-loop g l = record {
  own : l.submitter.seat.table_id ≡ l.initial.submitter.seat.table_id;
  sent : (knows l.submitter).sent ≡ l.sent;
  heard : (knows l.submitter).heard ≡ l.sent;
  hands : (knows l.submitter).hands ≡ (knows l.initial.submitter).hands;
  plan : (knows l.submitter).plan ≡ None;
}
