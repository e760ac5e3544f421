use Rattle.std.proofs.Common.{rules, ◌∙◌, sym, subst}
use Rattle.fj_queue.proofs.Counts.{counts_submission}
use Rattle.fj_queue.specs.Inside.{IsInside}
use Rattle.fj_queue.proofs.Calls.{at_holds, at_out, at_sends, at_sent, at_view, reviewed, recarried, inside_is, counted_then, appends, fits_still}
use Rattle.fj_queue.proofs.asks.QueueOf+Slot+E+E+E+Task+Law+E.submit.Goals as goal

pub append-requires-clause-few : goal.append-requires-clause-few
append-requires-clause-few g c = fits_still _ _ (c.enter-cell.ensures.sends c.args.s.now.resting.sends).0 c.requires.room

pub fetch_add-number-requires : goal.fetch_add-number-requires
fetch_add-number-requires g c = let is = reviewed _ _ _ _ c.in-Ok.ensures.seat (at_view _ _ c.enter-cell.ensures.seat) in let me = c.args.s.now.resting in
    (search rules, search rules, counts_submission g.E.Engine.meaning _ _ _ _ (at_holds _ _ is) (at_out _ _ is) (at_sends _ _ is ∙ me.sends) (fits_still _ _ (at_sent _ _ is) c.requires.room))

pub leave-requires-clause-inside : goal.leave-requires-clause-inside
leave-requires-clause-inside g c = let e = c.enter-cell.ensures in let me = c.args.s.now.resting in let is = reviewed _ _ _ _ c.in-Ok.ensures.seat (at_view _ _ e.seat) in
    appends g.E.Engine.meaning c.args.s.now.seat.me.0 _ c.enter-cell.result.value _ c.args.job (counted_then _ _ _ _ is c.fetch_add-number.ensures.2.0) e.sized e.sound (e.sends me.sends).0 c.requires.room c.requires.next c.in-Ok.ensures.ok

pub leave-requires-in-Err-clause-inside : goal.leave-requires-in-Err-clause-inside
leave-requires-in-Err-clause-inside g c = let e = c.enter-cell.ensures in let b = c.in-Err.ensures in
    subst (λ z. IsInside g.E.Engine.meaning c.append.new.seat.me z) (sym b.err) (inside_is g.E.Engine.meaning c.args.s.now.seat.me.0 _ c.enter-cell.result.value (recarried _ _ _ _ (reviewed _ _ _ _ b.seat (at_view _ _ e.seat)) b.err) e.sized e.sound)
