use Rattle.std.proofs.Common.{◌≡◌, true, arith}
use Rattle.fj_store.specs.Storage.{values_of}
use Rattle.fj_run_items.proofs.Ends.{given_is}
use Rattle.fj_run_items.proofs.Values.{cells_in}
use Rattle.fj_run_items.proofs.results.give_cells.Goals as goal

pub returns-clause-vars : goal.returns-clause-vars
returns-clause-vars c =
    let reads : c.args.input ≡ true = grind arith in
    given_is c.args.variables.now (values_of c.args.store.now) (values_of c.give_load.new.store) (values_of c.set_size.new.store) c.args.input c.args.size c.args.count (cells_in c.args.moved) reads
    c.give_load.ensures.vars c.set_size.ensures.vars
