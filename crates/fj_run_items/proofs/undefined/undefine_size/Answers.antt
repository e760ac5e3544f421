use Rattle.fj_store.specs.Storage.{values_of}
use Rattle.fj_run_items.proofs.Undefines.{size_undefined}
use Rattle.fj_run_items.proofs.undefined.undefine_size.Goals as goal

pub returns-in-Some-clause-vars : goal.returns-in-Some-clause-vars
returns-in-Some-clause-vars c =
    size_undefined c.args.variables.now (values_of c.args.store.now) (values_of c.undefine_place.new.store) c.args.size c.in-Some.place c.in-Some.is c.undefine_place.ensures.vars
