use Rattle.std.proofs.Common.{ap, ◌∙◌}
use Rattle.fj_moved.specs.Load.{row_cells}
use Rattle.fj_store.specs.Tables.{with_cells}
use Rattle.fj_store.specs.Taking.{home}
use Rattle.fj_store.proofs.store.put_row.Goals as goal

pub returns : goal.returns
returns c =
    let row = c.args.row in
    c.put_values.ensures c.args.kinds.now row.kind c.kind_in.ensures
    ∙ ap (λ values. with_cells (home c.args.kinds.now) (row_cells row.first row.kind values) c.args.slots.now) c.into_items.ensures
