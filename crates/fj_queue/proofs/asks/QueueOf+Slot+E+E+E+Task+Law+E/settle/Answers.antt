use Rattle.std.proofs.Common.{sym, subst, ◌∙◌}
use Rattle.fj_queue.specs.Answers.{Settles}
use Rattle.fj_queue.proofs.Calls.{at_view, settles_too}
use Rattle.fj_queue.proofs.asks.QueueOf+Slot+E+E+E+Task+Law+E.settle.Goals as goal

pub returns-then-is_ready-clause-told : goal.returns-then-is_ready-clause-told
returns-then-is_ready-clause-told g c = let first = c.loop.invariant.same in let then = c.reach-cell.ensures.same in
    settles_too g.E.Engine.meaning c.reach-cell.new.seat.me.0 c.args.s.now.seat.me.0 c.tell.new.seat.me.0 c.tell.result
    (sym (then.plan ∙ first.plan)) (sym (then.heard ∙ first.heard)) (sym (then.stopped ∙ first.stopped)) (sym (then.stopped_at ∙ first.stopped_at)) (sym (then.answered ∙ first.answered)) (subst (λ v. Settles g.E.Engine.meaning v c.tell.new.seat.me.0 c.tell.result) (at_view _ _ c.is_ready.ensures.seat) c.tell.ensures.told.1)
