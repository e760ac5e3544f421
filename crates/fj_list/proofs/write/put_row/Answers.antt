use Rattle.std.proofs.Common.{◌&&◌, ◌==◌, sym, ap, ◌∙◌}
use Rattle.fj_line.specs.Actions.{carried_out}
use Rattle.fj_line.specs.Page.{at_hand}
use Rattle.fj_moved.specs.Items.{items_left, kind_ahead, values_ahead, values_in}
use Rattle.fj_list.specs.Listing.{texts_behind}
use Rattle.fj_list.proofs.Rows.{values_passed}
use Rattle.fj_list.proofs.write.put_row.Goals as goal

pub returns-then-characters-clause-done : goal.returns-then-characters-clause-done
returns-then-characters-clause-done c =
    let items = c.args.items.now in
    let rest = values_in (items_left c.pass.new.self) in
    let new = at_hand c.add_row.new.page c.add_row.new.text in
    ap (λ vs. carried_out (at_hand c.args.page.now c.args.text.now) (texts_behind c.args.modes c.args.page.now.at c.args.characters vs))
    (values_passed (kind_ahead items) (values_ahead items) _ c.in_ok-count.count (items_left items) (items_left c.pass.new.self) c.ahead.ensures.values c.pass.ensures)
    ∙ c.in_ok-count.ensures.done c.args.characters rest
    ∙ ap (λ b. carried_out new (texts_behind c.args.modes c.add_row.new.page.at (b && (c.in_ok-count.count == 0)) rest)) c.if-characters.true

pub returns-else-characters-clause-done : goal.returns-else-characters-clause-done
returns-else-characters-clause-done c =
    let items = c.args.items.now in
    let rest = values_in (items_left c.pass.new.self) in
    let new = at_hand c.add_row.new.page c.add_row.new.text in
    ap (λ vs. carried_out (at_hand c.args.page.now c.args.text.now) (texts_behind c.args.modes c.args.page.now.at c.args.characters vs))
    (values_passed (kind_ahead items) (values_ahead items) _ c.in_ok-count.count (items_left items) (items_left c.pass.new.self) c.ahead.ensures.values c.pass.ensures)
    ∙ c.in_ok-count.ensures.done c.args.characters rest
    ∙ ap (λ b. carried_out new (texts_behind c.args.modes c.add_row.new.page.at (b && (c.in_ok-count.count == 0)) rest)) c.if-characters.false
    ∙ ap (λ b. carried_out new (texts_behind c.args.modes c.add_row.new.page.at b rest)) (sym c.if-characters.false)
