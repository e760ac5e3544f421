use Rattle.std.proofs.Common.{sym, ap, ◌∙◌}
use Rattle.fj_store.specs.Storage.{values_of}
use Rattle.fj_meaning.specs.Items.{given_back}
use Rattle.fj_meaning.proofs.Stored.{back_is}
use Rattle.fj_run_pending.specs.Plain.{cells_of}
use Rattle.fj_run_pending.proofs.deliver.give_items.Goals as goal

pub returns-in-Some-clause-values : goal.returns-in-Some-clause-values
returns-in-Some-clause-values c = λ variables are.
    back_is variables c.args.store.now c.give_load.new.self c.in-Some.moved.cells are c.give_load.ensures
    ∙ ap (λ o. given_back variables (cells_of o) (values_of c.args.store.now)) (sym c.in-Some.is)
