use Rattle.std.proofs.Common.{◌≡◌, true, arith}
use Rattle.fj_store.specs.Storage.{values_of}
use Rattle.fj_run_items.proofs.Undefines.{read_undefined}
use Rattle.fj_run_items.proofs.undefined.undefine.Goals as goal

pub returns-clause-vars : goal.returns-clause-vars
returns-clause-vars c =
    let reads : c.args.t.now.input ≡ true = grind arith in
    read_undefined c.args.variables.now (values_of c.args.store.now) (values_of c.undefine_items.new.store) (values_of c.undefine_group.new.store) (values_of c.undefine_size.new.store) c.args.t.now c.as_slice.result.now reads c.as_slice.ensures
    (c.in_ok-undefine_items.ensures.vars (values_of c.args.store.now)) (c.undefine_group.ensures.vars (values_of c.args.store.now)) c.undefine_size.ensures.vars
