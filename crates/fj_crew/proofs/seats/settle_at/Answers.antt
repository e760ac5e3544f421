use Rattle.std.proofs.Common.{◌+◌, refl, subst}
use Rattle.fj_queue.specs.Knows.{knows}
use Rattle.fj_queue.specs.Answers as answers
use Rattle.fj_queue.specs.Tokens.{Numbers}
use Rattle.fj_crew.proofs.Looking.{same_read}
use Rattle.fj_crew.proofs.seats.settle_at.Goals as goal

pub returns-clause-settles : goal.returns-clause-settles
returns-clause-settles g c = record {
  seat = c.settle-told.new.s;
  after = refl;
  numbers = λ s e.
      subst (λ z. Numbers (knows z) (knows c.settle-told.new.s) (knows z).sent ((knows z).heard + 1) (knows z).hands) (same_read c.args.seats.now.items c.args.at c.index_mut-seat.result.now s e c.index_mut-seat.ensures.value) c.settle-told.ensures.numbers;
  told = λ s e.
      subst (λ z. answers.Settles g.E.Engine.meaning (knows z) (knows c.settle-told.new.s) c.settle-told.result) (same_read c.args.seats.now.items c.args.at c.index_mut-seat.result.now s e c.index_mut-seat.ensures.value) c.settle-told.ensures.told;
}
