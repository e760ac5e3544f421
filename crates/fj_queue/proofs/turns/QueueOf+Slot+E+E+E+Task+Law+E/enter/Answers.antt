use Rattle.fj_queue.specs.Cell.{IsFor, progress, stop_code}
use Rattle.fj_queue.proofs.Calls.{at_plan, at_runs, at_progress, at_stop}
use Rattle.std.proofs.Common.{rules, ◌+◌, ◌*◌, subst, ◌≡◌, ◌∙◌, Some}
use Rattle.fj_queue.proofs.Moves.{sees_submissions, sees_progress, sees_tells, sees_stop, takes_cell}
use Rattle.fj_queue.proofs.Calls.{at_holds, at_out, carries}
use Rattle.fj_queue.proofs.turns.QueueOf+Slot+E+E+E+Task+Law+E.enter.Goals as goal

pub load-submissions-requires : goal.load-submissions-requires
load-submissions-requires g c = (search rules, search rules, sees_submissions g.E.Engine.meaning _ _ _ _ (at_holds _ _ c.take_turn.ensures.turn))

pub load-progress-requires : goal.load-progress-requires
load-progress-requires g c = let a = at_holds _ _ c.take_turn.ensures.turn in let b = at_holds _ _ c.load-submissions.ensures.2.0 ∙ a in (search rules, search rules, sees_progress g.E.Engine.meaning _ _ _ _ b)

pub load-tells-requires : goal.load-tells-requires
load-tells-requires g c = let a = at_holds _ _ c.take_turn.ensures.turn in let b = at_holds _ _ c.load-submissions.ensures.2.0 ∙ a in let d = at_holds _ _ c.load-progress.ensures.2.0 ∙ b in
    (search rules, search rules, sees_tells g.E.Engine.meaning _ _ _ _ d)

pub load-stop-requires : goal.load-stop-requires
load-stop-requires g c = let a = at_holds _ _ c.take_turn.ensures.turn in let b = at_holds _ _ c.load-submissions.ensures.2.0 ∙ a in let d = at_holds _ _ c.load-progress.ensures.2.0 ∙ b in
    let e = at_holds _ _ c.load-tells.ensures.2.0 ∙ d in (search rules, search rules, sees_stop g.E.Engine.meaning _ _ _ _ e)

pub load-cell-requires : goal.load-cell-requires
load-cell-requires g c = let a = at_holds _ _ c.take_turn.ensures.turn in let b = at_holds _ _ c.load-submissions.ensures.2.0 ∙ a in let d = at_holds _ _ c.load-progress.ensures.2.0 ∙ b in
    let e = at_holds _ _ c.load-tells.ensures.2.0 ∙ d in let f = at_holds _ _ c.load-stop.ensures.2.0 ∙ e in
    let o = at_out _ _ c.load-stop.ensures.2.0 ∙ (at_out _ _ c.load-tells.ensures.2.0 ∙ (at_out _ _ c.load-progress.ensures.2.0 ∙ (at_out _ _ c.load-submissions.ensures.2.0 ∙ (at_out _ _ c.take_turn.ensures.turn ∙ c.requires.rests.home)))) in
    (search rules, search rules, takes_cell g.E.Engine.meaning _ _ _ _ f o)

pub slot_mut-requires : goal.slot_mut-requires
slot_mut-requires g c = let t = c.load-cell.ensures.2 in (search rules, carries _ _ _ (Some t.0) t.1)

pub returns-clause-sound : goal.returns-clause-sound
returns-clause-sound g c = let t = c.load-cell.ensures.2 in let same : t.0 ≡ c.of.result.value = search rules in
    let plan = at_plan _ _ c.load-stop.ensures.2.0 ∙ (at_plan _ _ c.load-tells.ensures.2.0 ∙ (at_plan _ _ c.load-progress.ensures.2.0 ∙ (at_plan _ _ c.load-submissions.ensures.2.0 ∙ at_plan _ _ c.take_turn.ensures.turn))) in
    subst (λ z. IsFor g.E.Engine.meaning c.args.seat.now.me.0.plan z) same (subst (λ q. IsFor g.E.Engine.meaning q t.0) plan t.3)

pub returns-clause-runs : goal.returns-clause-runs
returns-clause-runs g c = λ k runs. let t = c.load-cell.ensures.2 in let same : t.0 ≡ c.of.result.value = search rules in
    let r1 = at_runs _ _ c.load-submissions.ensures.2.0 ∙ (at_runs _ _ c.take_turn.ensures.turn ∙ runs) in
    let r3 = at_runs _ _ c.load-tells.ensures.2.0 ∙ (at_runs _ _ c.load-progress.ensures.2.0 ∙ r1) in
    let prog = t.4.progress_is _ (at_progress _ _ c.load-stop.ensures.2.0 ∙ (at_progress _ _ c.load-tells.ensures.2.0 ∙ at_progress _ _ c.load-progress.ensures.2.0)) ∙ c.load-progress.ensures.2.1 k r1 in
    let stop = t.4.stop _ (at_stop _ _ c.load-stop.ensures.2.0) ∙ c.load-stop.ensures.2.1 k r3 in
    (subst (λ z. progress z ≡ 2 * k + 1) same prog, subst (λ z. stop_code z.halt ≡ 0) same stop)
