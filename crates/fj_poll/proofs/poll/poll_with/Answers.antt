use Rattle.std.proofs.Common.{refl, subst, inl, inr, arith}
use Rattle.fj_job.proofs.AskedLaws.{answered_told}
use Rattle.fj_poll.specs.Answers.{IsExecutedPolled}
use Rattle.fj_poll.proofs.poll.poll_with.Goals as goal

pub returns-in-Answered : goal.returns-in-Answered
returns-in-Answered g c =
    let asked = rw c.in-Answered.is at c.answer.ensures.asked in
    inl (record { disk_is = refl; unread = asked.unread; ran = answered_told _ _ _ _ _ _ refl asked refl refl ((λ t. t, λ t. t), omega arith) c.requires })

pub returns-in-Deck : goal.returns-in-Deck
returns-in-Deck g c =
    let asked = rw c.in-Deck.is at c.answer.ensures.asked in
    inr (record {
      deck = c.in-Deck.deck;
      is = λ t. asked.is_deck t;
      goes_on = asked.goes_on.0;
      executed = subst (λ o. IsExecutedPolled g.W.Sink.tells g.W.Sink.taken g.W.Sink.count g.D.Disk.tells g.D.Disk.held g.D.Disk.count g.D.Disk.refusals c.in-Deck.deck o c.args.disk.now c.execute_polled.new.out c.execute_polled.new.disk c.execute_polled.result)
          asked.untold c.execute_polled.ensures.executed;
    })
