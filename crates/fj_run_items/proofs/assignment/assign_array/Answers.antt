use Rattle.std.proofs.Common.{◌∙◌}
use Rattle.fj_store.specs.Storage.{values_of}
use Rattle.fj_meaning.specs.Items.{places_of}
use Rattle.fj_meaning.specs.Statement.{assigned}
use Rattle.fj_run_items.proofs.Ends.{array_step}
use Rattle.fj_run_items.proofs.assignment.assign_array.Goals as goal

pub loop-at-preserved : goal.loop-at-preserved
loop-at-preserved c = record {
  left = array_step c.args.variables.now c.args.var c.loop-at.at c.elements_of-at-end.result c.args.value.now c.loop-at.store c.assign_place.new.store
      (assigned c.args.variables.now (places_of c.args.variables.now c.args.var) c.args.value.now (values_of c.args.store.now)) c.loop-at-test.true c.in_ok-assign_place.ensures.vars c.loop-at.invariant.left;
  kinds = c.in_ok-assign_place.ensures.kinds ∙ c.loop-at.invariant.kinds;
}
