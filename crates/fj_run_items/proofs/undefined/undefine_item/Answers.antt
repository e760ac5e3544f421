use Rattle.fj_store.specs.Storage.{values_of}
use Rattle.fj_run_items.proofs.Undefines.{one_undefined, whole_undefined}
use Rattle.fj_run_items.proofs.undefined.undefine_item.Goals as goal

pub returns-in-One-clause-vars : goal.returns-in-One-clause-vars
returns-in-One-clause-vars c = λ values n rest more.
    one_undefined c.args.variables.now values (values_of c.args.store.now) (values_of c.undefine_place.new.store) n rest more c.args.item.now c.in-One.place c.in-One.is c.undefine_place.ensures.vars

pub returns-in-Whole-clause-vars : goal.returns-in-Whole-clause-vars
returns-in-Whole-clause-vars c = λ values n rest more.
    whole_undefined c.args.variables.now values (values_of c.args.store.now) (values_of c.undefine_variable.new.store) n rest more c.args.item.now c.in-Whole.var c.in-Whole.is (c.undefine_variable.ensures.vars values)
