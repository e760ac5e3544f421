use Rattle.std.proofs.Common.{rules, ◌∙◌}
use Rattle.fj_queue.proofs.Counts.{ends_job}
use Rattle.fj_queue.proofs.Calls.{due_small, finishes, at_view, at_list, reviewed}
use Rattle.fj_queue.proofs.jobs.QueueOf+Slot+E+E+E+Task+Law+E.finish.Goals as goal

pub fetch_add-progress-requires : goal.fetch_add-progress-requires
fetch_add-progress-requires g c = let r = c.requires.runs in (search rules, search rules, ends_job g.E.Engine.meaning _ _ _ _ c.args.cell.now.value.done r.holds r.out r.runs (due_small _ r.sized r.is_out))

pub end-requires-clause-held : goal.end-requires-clause-held
end-requires-clause-held g c = let r = c.requires.runs in at_list _ _ _ (c.fetch_add-progress.ensures.2 c.args.cell.now.value.done r.runs) ∙ r.carried

pub returns-clause-view : goal.returns-clause-view
returns-clause-view g c = at_view _ _ c.end.ensures.seat ∙ at_view _ _ (c.fetch_add-progress.ensures.2 c.args.cell.now.value.done c.requires.runs.runs)

pub returns-clause-inside : goal.returns-clause-inside
returns-clause-inside g c = let r = c.requires.runs in let ok = c.end.ensures.ok in let e = c.fetch_add-progress.ensures.2 c.args.cell.now.value.done r.runs in
    (finishes g.E.Engine.meaning _ _ c.args.cell.now.value _ c.args.out.engine c.args.out.job c.args.answer r c.requires.sound (reviewed _ _ _ _ c.end.ensures.seat (at_view _ _ e)) ok, search rules)
