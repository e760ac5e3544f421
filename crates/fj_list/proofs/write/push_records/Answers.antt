use Rattle.std.proofs.Common.{ap, ◌∙◌, length, List}
use Rattle.fj_value.specs.declared.value.Cell.{Cell}
use Rattle.fj_line.specs.Page.{at_hand}
use Rattle.fj_moved.specs.Items.{Output, in_cells, items_left, values_in}
use Rattle.fj_list.specs.ListText.{listed, text_of}
use Rattle.fj_list.proofs.ListLaws.{never_met, all_listed}
use Rattle.fj_list.proofs.write.push_records.Goals as goal

pub unreachable-requires : goal.unreachable-requires
unreachable-requires c =
    never_met (at_hand c.unlimited-page.result c.new-text.result) c.args.modes (values_in (items_left c.of_cells-items.result)) c.in-Err-Met.field-0-0 c.unlimited-page.ensures.hand
    (rw c.in-Err-Met.field-0-is at c.in-Err-Met.ensures.done)

pub returns-in-Ok : goal.returns-in-Ok
returns-in-Ok c =
    let start = c.in-Ok.ensures.kept.begin ∙ c.unlimited-page.ensures.begin ∙ ap length c.new-text.ensures in
    let shown = λ (items : List Output). text_of (listed c.args.modes (values_in items)) in
    all_listed (at_hand c.unlimited-page.result c.new-text.result) c.args.modes (values_in (items_left c.of_cells-items.result)) c.put_list.new.page c.put_list.new.text
    c.unlimited-page.ensures.hand c.in-Ok.ensures.done start c.in-Ok.ensures.within.begin c.in-Ok.ensures.within.line
    ∙ ap shown (c.of_cells-items.ensures ∙ ap (λ (cells : List Cell). in_cells cells c.as_slice-2.result.now) c.as_slice.ensures ∙ ap (in_cells c.args.moved.now.cells) c.as_slice-2.ensures)
