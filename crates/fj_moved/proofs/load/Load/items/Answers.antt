use Rattle.std.proofs.Common.{ap, sym, ◌∙◌}
use Rattle.fj_moved.specs.Items.{items_of, of_kind}
use Rattle.fj_moved.specs.Load.{moved_by}
use Rattle.fj_moved.proofs.ItemLemmas.{row_is}
use Rattle.fj_moved.proofs.load.Load.items.Goals as goal

pub returns-in-Row : goal.returns-in-Row
returns-in-Row c =
    let row = c.in-Row.row in
    c.of_row.ensures ∙ ap (of_kind row.kind) c.as_slice-in-Row.ensures ∙ sym (row_is row.first row.kind row.values) ∙ ap (λ s. items_of (moved_by s)) (sym c.in-Row.is) ∙ ap items_of c.self.view_is
