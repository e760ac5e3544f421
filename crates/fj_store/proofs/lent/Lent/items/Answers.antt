use Rattle.std.proofs.Common.{ap, sym, ◌∙◌}
use Rattle.fj_moved.specs.Items.{items_of}
use Rattle.fj_moved.proofs.ItemLemmas.{row_is}
use Rattle.fj_store.proofs.lent.Lent.items.Goals as goal

pub returns : goal.returns
returns c =
    let i = c.self.inside in
    c.of_row.ensures ∙ sym (row_is i.first i.kind i.values.now) ∙ ap items_of c.self.view_is
