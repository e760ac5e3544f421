use Rattle.std.proofs.Common.{◌≡◌, map, sym, ap, ◌∙◌}
use Rattle.fj_value.specs.declared.value.Cell.{Cell}
use Rattle.fj_moved.specs.Load.{moved_row, moved_by}
use Rattle.fj_moved.specs.declared.moved.Moved.{Moved}
use Rattle.fj_transfer.specs.declared.transfer.Transfer.{Transfer}
use Rattle.fj_unit.specs.Held.{task}
use Rattle.fj_unit.specs.Statements.{values_in}
use Rattle.fj_unit.proofs.Rows.{row_values}
use Rattle.fj_unit.proofs.transfer.copy_read.Goals as goal

pub returns-in-Row : goal.returns-in-Row
returns-in-Row c = λ yes.
    let row = c.in-Row.row in
    let moved : moved_row row ≡ c.in-Move.transfer.moved = sym (ap moved_by c.in-Row.is) ∙ c.shape.ensures ∙ ap (λ (t : Transfer). t.moved) c.get.ensures in
    c.copy_values.ensures yes ∙ c.as_slice-in-Row.ensures ∙ sym (row_values row.first row.kind row.values)
    ∙ ap (λ (m : Moved). map (λ (cell : Cell). cell.value) m.cells) moved ∙ sym (ap (λ j. values_in (task j)) c.in-Move.is)
