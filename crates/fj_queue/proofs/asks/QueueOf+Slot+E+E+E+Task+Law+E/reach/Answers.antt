use Rattle.std.proofs.Common.{sym, subst, ◌∙◌}
use Rattle.fj_queue.specs.Inside.{IsInside}
use Rattle.fj_queue.proofs.Calls.{inside_is, begins, or_left, at_view, reviewed, recarried}
use Rattle.fj_queue.proofs.asks.QueueOf+Slot+E+E+E+Task+Law+E.reach.Goals as goal

pub perform-requires-clause-begun : goal.perform-requires-clause-begun
perform-requires-clause-begun g c = let e = c.enter-cell.ensures in let b = c.in-Some.ensures in
    (begins g.E.Engine.meaning c.args.seat.now.me.0 _ c.enter-cell.result.value c.begin.new.cell.value c.in-Some.out.engine c.in-Some.out.job c.in-Some.out.number (reviewed _ _ _ _ b.seat (at_view _ _ (c.is_ready.ensures.seat ∙ e.seat))) (or_left _ _ c.requires.submitter.sends) e.sized e.sound (sym b.variant) b.engine b.job b.some b.number).0

pub perform-requires-clause-due : goal.perform-requires-clause-due
perform-requires-clause-due g c = let e = c.enter-cell.ensures in let b = c.in-Some.ensures in
    (begins g.E.Engine.meaning c.args.seat.now.me.0 _ c.enter-cell.result.value c.begin.new.cell.value c.in-Some.out.engine c.in-Some.out.job c.in-Some.out.number (reviewed _ _ _ _ b.seat (at_view _ _ (c.is_ready.ensures.seat ∙ e.seat))) (or_left _ _ c.requires.submitter.sends) e.sized e.sound (sym b.variant) b.engine b.job b.some b.number).1

pub perform-requires-clause-number : goal.perform-requires-clause-number
perform-requires-clause-number g c = let e = c.enter-cell.ensures in let b = c.in-Some.ensures in
    (begins g.E.Engine.meaning c.args.seat.now.me.0 _ c.enter-cell.result.value c.begin.new.cell.value c.in-Some.out.engine c.in-Some.out.job c.in-Some.out.number (reviewed _ _ _ _ b.seat (at_view _ _ (c.is_ready.ensures.seat ∙ e.seat))) (or_left _ _ c.requires.submitter.sends) e.sized e.sound (sym b.variant) b.engine b.job b.some b.number).2

pub returns-then-is_ready-clause-inside : goal.returns-then-is_ready-clause-inside
returns-then-is_ready-clause-inside g c = let e = c.enter-cell.ensures in inside_is g.E.Engine.meaning c.args.seat.now.me.0 _ c.enter-cell.result.value (c.is_ready.ensures.seat ∙ e.seat) e.sized e.sound

pub returns-in-None-clause-inside : goal.returns-in-None-clause-inside
returns-in-None-clause-inside g c = let e = c.enter-cell.ensures in let b = c.in-None.ensures in
    subst (λ z. IsInside g.E.Engine.meaning c.begin.new.seat.me z) (sym b.none) (inside_is g.E.Engine.meaning c.args.seat.now.me.0 _ c.enter-cell.result.value (recarried _ _ _ _ (reviewed _ _ _ _ b.seat (at_view _ _ (c.is_ready.ensures.seat ∙ e.seat))) b.none) e.sized e.sound)
