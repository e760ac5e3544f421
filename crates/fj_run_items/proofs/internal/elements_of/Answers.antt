use Rattle.std.proofs.Common.{◌∙◌}
use Rattle.fj_run_items.proofs.Inside.{elements_are}
use Rattle.fj_run_items.proofs.internal.elements_of.Goals as goal

pub returns-clause-cells : goal.returns-clause-cells
returns-clause-cells c =
    elements_are c.args.variables.now c.args.store.now c.run_of.result c.args.file c.in_ok-moved.moved c.requires c.run_of.ensures (c.in_ok-moved.ensures.moved ∙ c.in_ok-load.ensures.moved)
