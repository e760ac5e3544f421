use Rattle.std.proofs.Common.{◌+◌, ◌∷◌, List, ℕ, drop, ap}
use Rattle.std.proofs.lemmas.Result.{err_from_is_err_and}
use Rattle.fj_value.specs.declared.value.Value.{Value}
use Rattle.fj_line.specs.Page.{at_hand}
use Rattle.fj_namelist.specs.GroupText.{values_in, continued}
use Rattle.fj_transfer.specs.Printing.{record_actions}
use Rattle.fj_transfer.proofs.GroupLemmas.{from_here, first_stops}
use Rattle.fj_transfer.proofs.group.put_rest.Goals as goal

pub returns-in_err-put_next-clause-done : goal.returns-in_err-put_next-clause-done
returns-in_err-put_next-clause-done c =
    let p = err_from_is_err_and c.from_residual.result c.from_residual.ensures.1 in
    let here = c.loop-cell in
    let cells = c.args.cells.now in
    let next = from_here cells here.cell-index c.cell-item.result c.loop-cell-test.true c.cell-item.is in
    let written = λ (line : List ℕ) (values : List Value). record_actions (continued c.args.modes line values) in
    let rest = values_in (drop (here.cell-index + 1) cells) in
    rw (p.1, p.2) (first_stops (at_hand c.args.page.now c.args.text.now) (at_hand here.page here.text) (at_hand c.put_next.new.page c.put_next.new.text) (written c.args.line.now (values_in cells)) (written here.line (values_in (drop here.cell-index cells)))
    (written here.line (c.cell-item.result.value ∷ rest)) (written c.put_next.new.line rest) c.in_err-put_next.field-0.0
    here.invariant.same (ap (λ left. written here.line (values_in left)) next) (c.in_err-put_next.ensures.done rest))
