use Rattle.std.proofs.Common.{rules, refl, sym, subst, ◌∙◌, ◌<◌, ◌^◌}
use Rattle.fj_queue.proofs.Counts.{counts_tell, counts_stop}
use Rattle.fj_queue.proofs.Calls.{at_holds, at_out, at_sends, at_heard, at_progress, at_stop, tells_one, tells_stop, stop_progress, settled, stop_told, level_told, told_at, stopped_at, exact_at, told_then, stopped_then}
use Rattle.fj_queue.proofs.asks.QueueOf+Slot+E+E+E+Task+Law+E.tell.Goals as goal

pub fetch_add-tells-requires : goal.fetch_add-tells-requires
fetch_add-tells-requires g c = let i = c.requires.inside in let s = c.requires.sends in let t = c.in-Done.ensures in let e = t.seat in (
  search rules,
  search rules,
  counts_tell g.E.Engine.meaning _ _ _ _ _ _ (at_holds _ _ e ∙ i.holds) (at_out _ _ e ∙ i.out) (at_sends _ _ e ∙ s.0) (subst (λ n. n < 2 ^ 63) (sym (at_heard _ _ e)) s.2)
      (at_progress _ _ e ∙ i.progress_is) (at_stop _ _ e ∙ i.stop) (level_told g.E.Engine.meaning c.tell_next.new.seat.me c.args.cell.value (s.1 ∙ sym (at_heard _ _ e)) t.told.0),
)

pub leave-requires-clause-inside : goal.leave-requires-clause-inside
leave-requires-clause-inside g c = let t = c.in-Done.ensures in tells_one g.E.Engine.meaning _ _ c.args.cell.value _ c.requires.inside c.requires.sends.1 c.requires.ready t.after (told_at _ _ _ _ t.seat c.fetch_add-tells.ensures.2)

pub fetch_add-tells-requires-in-Stopped : goal.fetch_add-tells-requires-in-Stopped
fetch_add-tells-requires-in-Stopped g c = let i = c.requires.inside in let s = c.requires.sends in let t = c.in-Stopped.ensures in let e = t.seat in let p = stop_progress g.E.Engine.meaning _ c.args.cell.value _ i t.told.1 in
    (search rules, search rules, counts_stop g.E.Engine.meaning _ _ _ _ _ _ (at_holds _ _ e ∙ i.holds) (at_out _ _ e ∙ i.out) (at_sends _ _ e ∙ s.0) (subst (λ n. n < 2 ^ 63) (sym (at_heard _ _ e)) s.2) (at_stop _ _ e ∙ p.1) (at_progress _ _ e ∙ p.0))

pub leave-requires-in-Stopped-clause-inside : goal.leave-requires-in-Stopped-clause-inside
leave-requires-in-Stopped-clause-inside g c = let i = c.requires.inside in let t = c.in-Stopped.ensures in let e = t.seat in let p = stop_progress g.E.Engine.meaning _ c.args.cell.value _ i t.told.1 in
    tells_stop g.E.Engine.meaning _ _ c.args.cell.value _ _ _ i c.requires.sends.1 c.requires.ready t.after (stopped_at _ _ _ _ _ _ e (c.fetch_add-tells-in-Stopped.ensures.2 _ _ (at_stop _ _ e ∙ p.1) (at_progress _ _ e ∙ p.0)).0)

pub returns-in-Done-clause-told : goal.returns-in-Done-clause-told
returns-in-Done-clause-told g c = let t = c.in-Done.ensures in let n = told_then c.args.seat.now.me _ _ _ (told_at _ _ _ _ t.seat c.fetch_add-tells.ensures.2) c.leave.ensures.seat in
    (n.0, settled g.E.Engine.meaning c.args.seat.now.me.0 c.leave.new.seat.me.0 c.args.seat.now.me c.args.cell.value _ c.requires.inside refl c.requires.sends.1 t.outcome n.1)

pub returns-in-Stopped-clause-told : goal.returns-in-Stopped-clause-told
returns-in-Stopped-clause-told g c = let i = c.requires.inside in let t = c.in-Stopped.ensures in let e = t.seat in let p = stop_progress g.E.Engine.meaning _ c.args.cell.value _ i t.told.1 in
    let f = c.fetch_add-tells-in-Stopped.ensures.2 _ _ (at_stop _ _ e ∙ p.1) (at_progress _ _ e ∙ p.0) in
    let n = stopped_then c.args.seat.now.me _ _ _ _ _ (stopped_at _ _ _ _ _ _ e f.0) c.leave-in-Stopped.ensures.seat in (
      n.0,
      settled g.E.Engine.meaning c.args.seat.now.me.0 c.leave-in-Stopped.new.seat.me.0 c.args.seat.now.me c.args.cell.value _ i refl c.requires.sends.1 t.outcome
          (stop_told g.E.Engine.meaning c.args.seat.now.me c.leave-in-Stopped.new.seat.me.0 c.args.cell.value _ _ _ _ i c.requires.sends.1 t.told n.1 (exact_at c.tell_next.new.seat.me _ _ _ _ e f.1)),
    )
