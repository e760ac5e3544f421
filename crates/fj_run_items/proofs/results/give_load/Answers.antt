use Rattle.fj_run_items.proofs.Values.{load_back}
use Rattle.fj_run_items.proofs.results.give_load.Goals as goal

pub returns-in-Some-clause-vars : goal.returns-in-Some-clause-vars
returns-in-Some-clause-vars c = load_back c.args.variables.now c.args.store.now c.give_load.new.self c.args.moved c.in-Some.moved c.in-Some.is c.requires c.give_load.ensures
