use Rattle.std.proofs.Common.{length, refl, subst, arith}
use Rattle.std.proofs.lemmas.Option.{slice_get_read}
use Rattle.fj_queue.specs.Knows.{knows}
use Rattle.fj_crew.specs.Seats.{Sends}
use Rattle.fj_crew.proofs.Looking.{handed_back, same_read, sends_of}
use Rattle.fj_crew.proofs.Hiring.{paired_set}
use Rattle.fj_crew.proofs.seats.submit_at.Goals as goal

pub submit-number-requires-clause-next : goal.submit-number-requires-clause-next
submit-number-requires-clause-next g c =
    let ss = c.args.seats.now.items in let s = c.index_mut-seat.result.now in
    c.requires.next s (slice_get_read ss (length ss) c.args.at s refl c.requires.within c.index_mut-seat.ensures.value)

pub returns-clause-paired : goal.returns-clause-paired
returns-clause-paired g c =
    let qs = c.args.queues.now.items in let ss = c.args.seats.now.items in let q = c.index-queue.result.now in
    paired_set qs ss c.args.at q c.submit-number.new.s
    (slice_get_read qs (length qs) c.args.at q refl (omega (arith, c.requires.within, c.requires.paired.same)) c.index-queue.ensures) c.submit-number.ensures.own c.requires.paired

pub returns-clause-submits : goal.returns-clause-submits
returns-clause-submits g c = record {
  seat = c.submit-number.new.s;
  after = refl;
  sends = λ s e.
      subst (λ z. Sends (knows z) c.submit-number.result (knows c.submit-number.new.s)) (same_read c.args.seats.now.items c.args.at c.index_mut-seat.result.now s e c.index_mut-seat.ensures.value)
      (sends_of (knows c.index_mut-seat.result.now) (knows c.submit-number.new.s) c.submit-number.result c.args.job c.submit-number.ensures.number c.submit-number.ensures.ok c.submit-number.ensures.err);
}

pub returns-clause-handed_back : goal.returns-clause-handed_back
returns-clause-handed_back g c = handed_back (knows c.index_mut-seat.result.now) (knows c.submit-number.new.s) c.submit-number.result c.args.job c.submit-number.ensures.err
