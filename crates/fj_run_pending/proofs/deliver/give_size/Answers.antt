use Rattle.std.proofs.Common.{sym, ap, ◌∙◌}
use Rattle.fj_store.specs.Storage.{values_of}
use Rattle.fj_store.specs.Variables.{with_value}
use Rattle.fj_meaning.specs.Telling.{with_size}
use Rattle.fj_meaning.proofs.Stored.{set_is}
use Rattle.fj_run_pending.proofs.deliver.give_size.Goals as goal

pub returns-in-Some-clause-values : goal.returns-in-Some-clause-values
returns-in-Some-clause-values c = λ variables are.
    set_is variables c.args.store.now c.set.new.self c.in-Some.place c.value_of.result are c.set.ensures
    ∙ ap (with_value (values_of c.args.store.now) c.in-Some.place) (c.value_of.ensures variables c.in-Some.place)
    ∙ ap (λ o. with_size variables o c.args.count (values_of c.args.store.now)) (sym c.in-Some.is)
