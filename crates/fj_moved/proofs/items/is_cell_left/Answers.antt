use Rattle.std.proofs.Common.{◌≡◌, ◌+◌, ◌++◌, [], ◌∷◌, zero, suc, true, None, slice_get, get_or, length, drop, nat_lt, refl, sym, ap, ◌∙◌, ◌<◌, ℕ, List, arith}
use Rattle.std.proofs.lemmas.Bool.Decides.{nat_tests}
use Rattle.fj_value.specs.declared.value.Cell.{Cell}
use Rattle.fj_moved.specs.Items.{Output, in_cell, in_cells}
use Rattle.fj_moved.proofs.ItemLemmas.{cells_more, none_there}
use Rattle.fj_moved.proofs.items.is_cell_left.Goals as goal

some_left : (cells : List Cell) (i : ℕ) (more : List Output) → i < length cells → true ≡ nat_lt 0 (length (in_cell (slice_get cells i) ++ more))
some_left [] i more h = absurd (omega arith)
some_left (cell ∷ cells) zero more h = grind (arith, nat_tests)
some_left (cell ∷ cells) (suc i) more h = some_left cells i more (omega arith)

pub returns-then-order-at : goal.returns-then-order-at
returns-then-order-at c =
    let cells = c.args.cells.now in
    let order = c.args.order.now in
    let l = c.loop-at in
    some_left cells (get_or order l.at 0) (in_cells cells (drop (l.at + 1) order)) c.if-order-at.true
    ∙ ap (λ x. nat_lt 0 (length x)) (sym (cells_more cells order l.at _ c.loop-at-test.true refl) ∙ l.invariant)

pub loop-at-preserved : goal.loop-at-preserved
loop-at-preserved c =
    let cells = c.args.cells.now in
    let order = c.args.order.now in
    sym (cells_more cells order c.loop-at.at None c.loop-at-test.true (none_there cells (get_or order c.loop-at.at 0) c.if-order-at.false)) ∙ c.loop-at.invariant
