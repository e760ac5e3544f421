use Rattle.std.proofs.Common.{◌∙◌, sym}
use Rattle.fj_store.proofs.TakingLemmas.{marked_found, marked_other, marked_past}
use Rattle.fj_store.proofs.taken.cell_marked.Goals as goal

pub returns-then-at-cells-clause-at : goal.returns-then-at-cells-clause-at
returns-then-at-cells-clause-at c = λ tells. marked_past c.args.cells.now c.args.place c.args.mark c.in-Some.mark tells c.if-place-eq-NO_VARIABLE.false c.in-Some.is c.if-at-cells.true

pub returns-then-same_place-clause-at : goal.returns-then-same_place-clause-at
returns-then-same_place-clause-at c = λ tells.
    marked_found c.args.cells.now c.args.place c.args.mark c.in-Some.mark c.index-cells-at.result tells c.if-place-eq-NO_VARIABLE.false c.in-Some.is
    c.if-at-cells.false (sym c.same_place.ensures ∙ c.if-same_place.true)

pub returns-else-same_place-clause-at : goal.returns-else-same_place-clause-at
returns-else-same_place-clause-at c = λ tells.
    marked_other c.args.cells.now c.args.place c.args.mark c.in-Some.mark c.index-cells-at.result tells c.if-place-eq-NO_VARIABLE.false c.in-Some.is
    c.if-at-cells.false (sym c.same_place.ensures ∙ c.if-same_place.false)
