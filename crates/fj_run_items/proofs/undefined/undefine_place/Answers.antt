use Rattle.fj_run_items.proofs.Undefines.{place_undefined}
use Rattle.fj_run_items.proofs.undefined.undefine_place.Goals as goal

pub returns-clause-vars : goal.returns-clause-vars
returns-clause-vars c = place_undefined c.args.store.now c.set.new.self c.args.place c.set.ensures
