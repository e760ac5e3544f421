use Rattle.std.proofs.Common.{◌∷◌, sym, ap, ◌∙◌}
use Rattle.fj_store.specs.Rows.{Halves}
use Rattle.fj_store.specs.Tables.{with_cells}
use Rattle.fj_store.specs.Taking.{home}
use Rattle.fj_store.proofs.RowLemmas.{in_values, is_there, no_row}
use Rattle.fj_store.proofs.TableLemmas.{with_lost}
use Rattle.fj_store.proofs.slots.Slots.put_cells.Goals as goal

pub row_mut-values-requires : goal.row_mut-values-requires
row_mut-values-requires c = in_values c.self.inside.marks c.self.inside.values c.args.cell.place.var c.self.invariant c.if-not-has.ensures

pub invariant_of-self : goal.invariant_of-self
invariant_of-self c =
    let all : Halves = record { marks = c.self.inside.marks; values = c.self.inside.values } in
    let there = is_there all c.args.self.now c.args.cell.place.var c.row_mut-marks.result.now c.row_mut-values.result.now c.self.invariant c.self.view_is c.if-not-has.ensures c.row_mut-marks.ensures.value c.row_mut-values.ensures.value in
    (c.put_cells.ensures.put.stand all there.stand).marked

pub returns-clause-put : goal.returns-clause-put
returns-clause-put c = λ kinds same.
    let all : Halves = record { marks = c.self.inside.marks; values = c.self.inside.values } in
    let there = is_there all c.args.self.now c.args.cell.place.var c.row_mut-marks.result.now c.row_mut-values.result.now c.self.invariant c.self.view_is c.if-not-has.ensures c.row_mut-marks.ensures.value c.row_mut-values.ensures.value in
    c.put_cells.ensures.put.put all kinds same there.stand ∙ ap (with_cells (home kinds) (c.args.cell ∷ c.args.rest.now.items)) there.same

pub returns-then-not-has-clause-put : goal.returns-then-not-has-clause-put
returns-then-not-has-clause-put c = λ kinds same.
    let slots = c.args.self.now in
    let none = no_row c.self.inside.marks c.self.inside.values slots c.args.cell.place.var c.self.view_is c.if-not-has.ensures in
    ap (λ cs. with_cells (home kinds) cs slots) (sym c.pop_front.ensures.items)
    ∙ ap (with_cells (home kinds) c.args.rest.now.items) (sym (with_lost slots c.args.cell.place (home kinds c.args.cell) none))
