use Rattle.std.proofs.Common.{length, ap, sym, ◌∙◌}
use Rattle.fj_moved.specs.Load.{moved_by}
use Rattle.fj_moved.proofs.LoadLemmas.{row_length}
use Rattle.fj_moved.proofs.load.Load.len.Goals as goal

pub returns-in-Row : goal.returns-in-Row
returns-in-Row c =
    let row = c.in-Row.row in
    c.len-in-Row.ensures ∙ sym (row_length row.first row.kind row.values) ∙ ap (λ s. length (moved_by s).cells) (sym c.in-Row.is) ∙ ap (λ m. length m.cells) c.self.view_is
