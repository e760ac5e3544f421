use Rattle.fj_meaning.proofs.Stored.{back_is}
use Rattle.fj_run_items.proofs.results.give_back.Goals as goal

pub returns-clause-vars : goal.returns-clause-vars
returns-clause-vars c = back_is c.args.variables.now c.args.store.now c.give_back.new.self c.args.cells c.requires c.give_back.ensures
