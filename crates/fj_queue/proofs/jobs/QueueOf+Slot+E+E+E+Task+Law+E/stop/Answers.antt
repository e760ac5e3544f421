use Rattle.std.proofs.Common.{rules, ◌∙◌}
use Rattle.fj_queue.proofs.Counts.{ends_job, sets_stop}
use Rattle.fj_queue.proofs.Calls.{due_small, halts, at_view, at_holds, at_out, at_progress, at_stop, at_tells, at_list, reviewed, ended_then}
use Rattle.fj_queue.proofs.jobs.QueueOf+Slot+E+E+E+Task+Law+E.stop.Goals as goal

pub fetch_add-progress-requires : goal.fetch_add-progress-requires
fetch_add-progress-requires g c = let r = c.requires.runs in (search rules, search rules, ends_job g.E.Engine.meaning _ _ _ _ c.args.cell.now.value.done r.holds r.out r.runs (due_small _ r.sized r.is_out))

pub swap-stop-requires : goal.swap-stop-requires
swap-stop-requires g c = let r = c.requires.runs in let e = c.fetch_add-progress.ensures.2 c.args.cell.now.value.done r.runs in
    (search rules, search rules, sets_stop g.E.Engine.meaning _ _ _ _ _ c.args.cell.now.value.done _ (at_holds _ _ e ∙ r.holds) (at_out _ _ e ∙ r.out) (at_progress _ _ e) (at_stop _ _ e ∙ r.stop) (at_tells _ _ e ∙ r.tells) (r.sized.told r.going))

pub end-requires-clause-held : goal.end-requires-clause-held
end-requires-clause-held g c = let r = c.requires.runs in let e = c.fetch_add-progress.ensures.2 c.args.cell.now.value.done r.runs in
    at_list _ _ _ (ended_then c.args.seat.now.me _ _ c.args.cell.now.value.done _ e c.swap-stop.ensures.2 c.code.ensures) ∙ r.carried

pub returns-clause-view : goal.returns-clause-view
returns-clause-view g c = let r = c.requires.runs in let e = c.fetch_add-progress.ensures.2 c.args.cell.now.value.done r.runs in
    at_view _ _ c.end.ensures.seat ∙ at_view _ _ (ended_then c.args.seat.now.me _ _ c.args.cell.now.value.done _ e c.swap-stop.ensures.2 c.code.ensures)

pub returns-clause-inside : goal.returns-clause-inside
returns-clause-inside g c = let r = c.requires.runs in let e = c.fetch_add-progress.ensures.2 c.args.cell.now.value.done r.runs in (
  halts g.E.Engine.meaning _ _ c.args.cell.now.value _ c.args.out.engine (record { stop = c.args.stop; before = c.args.before; after = g.E.Engine.meaning.faults c.args.out.engine }) r c.requires.sound
      (reviewed _ _ _ _ c.end.ensures.seat (at_view _ _ (ended_then c.args.seat.now.me _ _ c.args.cell.now.value.done _ e c.swap-stop.ensures.2 c.code.ensures))) c.end.ensures.err,
  search rules,
)
