use Rattle.std.proofs.Common.{length, ap, sym, ◌∙◌}
use Rattle.fj_moved.proofs.LoadLemmas.{row_length}
use Rattle.fj_moved.specs.declared.moved.Moved.{Moved}
use Rattle.fj_store.proofs.lent.Lent.len.Goals as goal

pub returns : goal.returns
returns c =
    let i = c.self.inside in
    sym (row_length i.first i.kind i.values.now) ∙ ap (λ (m : Moved). length m.cells) c.self.view_is
