use Rattle.fj_run_items.proofs.Ends.{place_set}
use Rattle.fj_run_items.proofs.assignment.assign_place.Goals as goal

pub returns-clause-vars : goal.returns-clause-vars
returns-clause-vars c =
    place_set c.args.variables.now c.args.store.now c.set.new.self c.args.place c.args.value.now c.in_ok-new.new c.kind_of-kind.result c.requires c.kind_of-kind.ensures c.in_ok-new.ensures c.set.ensures
