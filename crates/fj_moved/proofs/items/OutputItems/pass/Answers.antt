use Rattle.std.proofs.Common.{ap, ◌∙◌}
use Rattle.fj_moved.specs.Items.{items_left, kind_ahead, values_ahead}
use Rattle.fj_moved.proofs.ItemLemmas.{row_cut}
use Rattle.fj_moved.proofs.items.OutputItems.pass.Goals as goal

pub returns-in-Row : goal.returns-in-Row
returns-in-Row c =
    ap items_left c.in-Row.is
    ∙ row_cut c.in-Row.kind (kind_ahead c.args.self.now) c.in-Row.values.now (values_ahead c.args.self.now) c.args.count (ap kind_ahead c.in-Row.is) (ap values_ahead c.in-Row.is)
