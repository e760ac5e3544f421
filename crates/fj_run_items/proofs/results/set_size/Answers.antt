use Rattle.fj_run_items.proofs.Ends.{size_set}
use Rattle.fj_run_items.proofs.results.set_size.Goals as goal

pub returns-in-Some-clause-vars : goal.returns-in-Some-clause-vars
returns-in-Some-clause-vars c =
    size_set c.args.variables.now c.args.store.now c.set.new.self c.args.size c.in-Some.place c.args.count c.count_value.result c.in-Some.is c.requires
    (c.count_value.ensures c.args.variables.now c.in-Some.place) c.set.ensures
