use Rattle.fj_run_end.proofs.Performing.{first_serves}
use Rattle.fj_run_end.proofs.jobs.serve_first.Goals as goal

pub returns : goal.returns
returns g c =
    first_serves g.E.Engine.meaning c.args.slot.now c.begin.new.self c.end.new.self
    c.in-Some.out.engine c.perform-got.new.self c.in-Some.out.job c.perform-got.new.job c.perform-got.result c.faults-before.result
    c.requires.begins c.in-Some.ensures.engine c.in-Some.ensures.job c.in-Some.ensures.some c.faults-before.ensures
    c.perform-got.ensures.serves c.perform-got.ensures.cause c.end.ensures.ok c.end.ensures.err
