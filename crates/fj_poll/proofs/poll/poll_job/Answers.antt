use Rattle.std.proofs.Common.{subst}
use Rattle.fj_poll.specs.Answers.{HasPolled}
use Rattle.fj_poll.proofs.Polled.{nothing_polled, refused_polled}
use Rattle.fj_poll.proofs.poll.poll_job.Goals as goal

pub returns-in-Err : goal.returns-in-Err
returns-in-Err g c = nothing_polled _ _ _ _ _ _ _ _ _ _ _ _ _ _ c.requires

pub returns-in-Ok-None : goal.returns-in-Ok-None
returns-in-Ok-None g c =
    let none = rw c.in-Ok-None.field-0-is at c.in-Ok-None.ensures in
    subst (λ o. HasPolled g.R.Source.tells g.R.Source.left g.R.Source.count g.W.Sink.tells g.W.Sink.taken g.W.Sink.count g.D.Disk.tells g.D.Disk.held g.D.Disk.count g.D.Disk.refusals o
    c.args.deck.now c.args.out.now c.args.disk.now c.refuse_words.result c.args.deck.now c.refuse_words.new.out c.args.disk.now) none
    (refused_polled _ _ _ _ _ _ _ _ _ _ _ _ _ _ _ c.refuse_words.ensures.usage c.refuse_words.ensures.output c.refuse_words.ensures.front c.refuse_words.ensures.cause (c.refuse_words.ensures.telling, c.refuse_words.ensures.later))

pub returns-in-Ok-Some : goal.returns-in-Ok-Some
returns-in-Ok-Some g c =
    let some = rw c.in-Ok-Some.field-0-is at c.in-Ok-Some.ensures in
    subst (λ o. HasPolled g.R.Source.tells g.R.Source.left g.R.Source.count g.W.Sink.tells g.W.Sink.taken g.W.Sink.count g.D.Disk.tells g.D.Disk.held g.D.Disk.count g.D.Disk.refusals o
    c.args.deck.now c.args.out.now c.args.disk.now c.poll_with.result c.poll_with.new.deck c.poll_with.new.out c.poll_with.new.disk) some c.poll_with.ensures
