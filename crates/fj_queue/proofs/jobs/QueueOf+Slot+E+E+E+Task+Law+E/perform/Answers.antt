use Rattle.std.proofs.Common.{rules, ◌≤◌, ◌∙◌, refl, sym, subst, Ok, Err}
use Rattle.fj_slot.specs.Ledger.{with_answer, with_halt}
use Rattle.fj_slot.specs.Causes.{HasCause}
use Rattle.fj_queue.specs.Cell.{IsFor}
use Rattle.fj_queue.proofs.Calls.{at_runs, at_plan, at_live, runs_on, performed, due_moves}
use Rattle.fj_queue.proofs.jobs.QueueOf+Slot+E+E+E+Task+Law+E.perform.Goals as goal

pub finish-requires : goal.finish-requires
finish-requires g c = let m = g.E.Engine.meaning in let b = c.requires.begun in let s = c.start.ensures.seat in let e = c.enter-cell.ensures in let k = c.args.cell.value.done in let runs = at_runs _ _ s in
    let r = runs_on m c.start.new.seat.me.0 c.enter-cell.new.seat.me c.enter-cell.result.value k e.seat (at_live _ _ s ∙ b.live) runs e.sized e.sound (e.runs k runs) in
    let cause = c.in-Ok.ensures.cause in
    record {
      own = search rules;
      runs = r.0;
      number = c.requires.number ∙ sym r.1;
      count = subst (λ n. n ≤ m.faults c.perform-got.new.self) (sym c.faults-before.ensures) cause.later;
      sound = performed m c.enter-cell.new.seat.me c.enter-cell.result.value (with_answer c.enter-cell.result.value c.perform-got.new.self c.perform-got.new.job c.in-Ok.answer) c.args.out.engine _ c.args.out.job _ (Ok c.in-Ok.answer) r.0
          (due_moves m _ _ k _ _ _ (at_plan _ _ e.seat ∙ at_plan _ _ s) r.1 c.requires.due) c.in-Ok.ensures.serves cause refl refl refl tt;
    }

pub stop-requires : goal.stop-requires
stop-requires g c = let m = g.E.Engine.meaning in let b = c.requires.begun in let s = c.start.ensures.seat in let e = c.enter-cell.ensures in let k = c.args.cell.value.done in let runs = at_runs _ _ s in
    let r = runs_on m c.start.new.seat.me.0 c.enter-cell.new.seat.me c.enter-cell.result.value k e.seat (at_live _ _ s ∙ b.live) runs e.sized e.sound (e.runs k runs) in
    let cause = c.in-Err.ensures.cause in
    record {
      own = search rules;
      runs = r.0;
      number = c.requires.number ∙ sym r.1;
      cause = subst (λ n. HasCause n (m.faults c.perform-got.new.self) (Err c.in-Err.stop)) (sym c.faults-before.ensures) cause;
      sound = subst (λ n. IsFor m c.enter-cell.new.seat.me.0.plan (with_halt c.enter-cell.result.value c.perform-got.new.self (record { stop = c.in-Err.stop; before = n; after = m.faults c.perform-got.new.self }))) (sym c.faults-before.ensures)
          (performed m c.enter-cell.new.seat.me c.enter-cell.result.value (with_halt c.enter-cell.result.value c.perform-got.new.self (record { stop = c.in-Err.stop; before = m.faults c.args.out.engine; after = m.faults c.perform-got.new.self })) c.args.out.engine _ c.args.out.job c.perform-got.new.job (Err c.in-Err.stop) r.0
          (due_moves m _ _ k _ _ _ (at_plan _ _ e.seat ∙ at_plan _ _ s) r.1 c.requires.due) c.in-Err.ensures.serves cause refl refl tt refl);
    }
