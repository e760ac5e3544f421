use Rattle.std.proofs.Common.{◌≤◌, ◌∙◌, arith}
use Rattle.fj_store.specs.Storage.{values_of}
use Rattle.fj_run_items.proofs.Undefines.{variable_step, variable_end}
use Rattle.fj_run_items.proofs.undefined.undefine_variable.Goals as goal

pub loop-at-preserved : goal.loop-at-preserved
loop-at-preserved c = record {
  blank = λ values more. variable_step c.args.variables.now values (values_of c.loop-at.store) (values_of c.undefine_place.new.store) (values_of c.args.store.now) more c.args.var c.loop-at.at c.elements_of-at-end.result
      c.loop-at-test.true c.undefine_place.ensures.vars (c.loop-at.invariant.blank values more);
  kinds = c.undefine_place.ensures.kinds ∙ c.loop-at.invariant.kinds;
}

pub returns-clause-vars : goal.returns-clause-vars
returns-clause-vars c = λ values more.
    let past : c.elements_of-at-end.result ≤ c.loop-at.at = omega arith in
    variable_end c.args.variables.now values (values_of c.loop-at.store) (values_of c.args.store.now) more c.args.var c.loop-at.at c.elements_of-at-end.result past (c.loop-at.invariant.blank values more)
