use Rattle.std.proofs.Common.{rules, sym, subst}
use Rattle.fj_queue.specs.Inside.{IsInside}
use Rattle.fj_queue.proofs.Calls.{inside_is, begins, nothing, left_then, or_right, at_view, reviewed, recarried}
use Rattle.fj_queue.proofs.jobs.QueueOf+Slot+E+E+E+Task+Law+E.work_once.Goals as goal

pub perform-cell-requires-clause-begun : goal.perform-cell-requires-clause-begun
perform-cell-requires-clause-begun g c = let e = c.enter-cell.ensures in let b = c.in-Some.ensures in
    (begins g.E.Engine.meaning c.args.hand.now.seat.me.0 _ c.enter-cell.result.value c.begin.new.cell.value c.in-Some.out.engine c.in-Some.out.job c.in-Some.out.number (reviewed _ _ _ _ b.seat (at_view _ _ e.seat)) (or_right _ _ c.args.hand.now.resting.works) e.sized e.sound (sym b.variant) b.engine b.job b.some b.number).0

pub perform-cell-requires-clause-due : goal.perform-cell-requires-clause-due
perform-cell-requires-clause-due g c = let e = c.enter-cell.ensures in let b = c.in-Some.ensures in
    (begins g.E.Engine.meaning c.args.hand.now.seat.me.0 _ c.enter-cell.result.value c.begin.new.cell.value c.in-Some.out.engine c.in-Some.out.job c.in-Some.out.number (reviewed _ _ _ _ b.seat (at_view _ _ e.seat)) (or_right _ _ c.args.hand.now.resting.works) e.sized e.sound (sym b.variant) b.engine b.job b.some b.number).1

pub perform-cell-requires-clause-number : goal.perform-cell-requires-clause-number
perform-cell-requires-clause-number g c = let e = c.enter-cell.ensures in let b = c.in-Some.ensures in
    (begins g.E.Engine.meaning c.args.hand.now.seat.me.0 _ c.enter-cell.result.value c.begin.new.cell.value c.in-Some.out.engine c.in-Some.out.job c.in-Some.out.number (reviewed _ _ _ _ b.seat (at_view _ _ e.seat)) (or_right _ _ c.args.hand.now.resting.works) e.sized e.sound (sym b.variant) b.engine b.job b.some b.number).2

pub returns-in-None-clause-idle : goal.returns-in-None-clause-idle
returns-in-None-clause-idle g c = let e = c.enter-cell.ensures in let b = c.in-None.ensures in
    λ _. (search rules, search rules, nothing c.args.hand.now.seat.me.0 _ c.enter-cell.result.value e.sized (left_then _ _ _ _ (reviewed _ _ _ _ b.seat (at_view _ _ e.seat)) c.leave-in-None.ensures.seat) (sym b.variant))

pub leave-requires-in-None-clause-inside : goal.leave-requires-in-None-clause-inside
leave-requires-in-None-clause-inside g c = let e = c.enter-cell.ensures in let b = c.in-None.ensures in
    subst (λ z. IsInside g.E.Engine.meaning c.begin.new.seat.me z) (sym b.none) (inside_is g.E.Engine.meaning c.args.hand.now.seat.me.0 _ c.enter-cell.result.value (recarried _ _ _ _ (reviewed _ _ _ _ b.seat (at_view _ _ e.seat)) b.none) e.sized e.sound)
