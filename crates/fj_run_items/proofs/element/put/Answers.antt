use Rattle.std.proofs.Common.{sym, ap, ◌∙◌}
use Rattle.fj_internal.specs.OneElement.{put_one}
use Rattle.fj_internal.specs.declared.one.One.{One}
use Rattle.fj_meaning.specs.Items.{cell_at}
use Rattle.fj_meaning.specs.Transfers.{with_put}
use Rattle.fj_store.specs.Storage.{values_of}
use Rattle.fj_value.specs.declared.condition.Condition.TheVariants.{Fine}
use Rattle.fj_run_items.proofs.Elements.{element_set, element_kept}
use Rattle.fj_run_items.proofs.element.put.Goals as goal

pub returns-in-Put-clause-put : goal.returns-in-Put-clause-put
returns-in-Put-clause-put c =
    element_set c.args.variables.now c.args.store.now c.set.new.self c.args.place c.in-Put.value Fine c.requires c.set.ensures
    ∙ ap (λ (one : One). with_put c.args.variables.now (values_of c.args.store.now) (put_one (cell_at c.args.variables.now (values_of c.args.store.now) c.args.place) one)) (sym c.in-Put.is)

pub returns-in_ok-value-in-Kept-clause-put : goal.returns-in_ok-value-in-Kept-clause-put
returns-in_ok-value-in-Kept-clause-put c =
    element_kept c.args.variables.now c.args.store.now c.set-in-Kept.new.self c.args.place c.in_ok-value-in-Kept.value c.in-Kept.condition c.requires c.in_ok-value-in-Kept.ensures c.set-in-Kept.ensures
    ∙ ap (λ (one : One). with_put c.args.variables.now (values_of c.args.store.now) (put_one (cell_at c.args.variables.now (values_of c.args.store.now) c.args.place) one)) (sym c.in-Kept.is)
