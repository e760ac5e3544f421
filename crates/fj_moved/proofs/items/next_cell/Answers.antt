use Rattle.std.proofs.Common.{Some, None, get_or, sym, ap, ◌∙◌}
use Rattle.fj_moved.proofs.ItemLemmas.{cells_more, some_there, none_there}
use Rattle.fj_moved.proofs.items.next_cell.Goals as goal

pub returns-in-Some-clause-items : goal.returns-in-Some-clause-items
returns-in-Some-clause-items c =
    let cells = c.args.cells.now in
    let order = c.args.order.now in
    let cell = c.in-Some.cell.now in
    sym (cells_more cells order c.loop-at.at (Some cell) c.loop-at-test.true
    (some_there cells (get_or order c.loop-at.at 0) cell c.in-Some.ensures.lookup.3.0 ∙ ap (λ x. Some x) (sym c.in-Some.ensures.lookup.1)))
    ∙ c.loop-at.invariant

pub loop-at-preserved : goal.loop-at-preserved
loop-at-preserved c =
    let cells = c.args.cells.now in
    let order = c.args.order.now in
    sym (cells_more cells order c.loop-at.at None c.loop-at-test.true (none_there cells (get_or order c.loop-at.at 0) c.in_default.ensures.lookup.3)) ∙ c.loop-at.invariant
