use Rattle.std.proofs.Common.{◌∙◌, ap}
use Rattle.fj_store.specs.Rows.{Halves}
use Rattle.fj_moved.specs.Load.{row_cells}
use Rattle.fj_store.specs.Tables.{with_cells}
use Rattle.fj_store.specs.Taking.{home}
use Rattle.fj_store.proofs.RowLemmas.{in_values, is_there, missing_put, no_row}
use Rattle.fj_store.proofs.slots.Slots.put_values.Goals as goal

pub row_mut-values-requires : goal.row_mut-values-requires
row_mut-values-requires c = in_values c.self.inside.marks c.self.inside.values c.args.first.var c.self.invariant c.if-not-has.ensures

pub returns-then-not-has : goal.returns-then-not-has
returns-then-not-has c = λ kinds of same.
    missing_put kinds c.args.self.now c.args.first of c.args.row (no_row c.self.inside.marks c.self.inside.values c.args.self.now c.args.first.var c.self.view_is c.if-not-has.ensures)

pub invariant_of-self : goal.invariant_of-self
invariant_of-self c =
    let all : Halves = record { marks = c.self.inside.marks; values = c.self.inside.values } in
    let there = is_there all c.args.self.now c.args.first.var c.row_mut-marks.result.now c.row_mut-values.result.now c.self.invariant c.self.view_is c.if-not-has.ensures c.row_mut-marks.ensures.value c.row_mut-values.ensures.value in
    ((c.put_values.ensures c.args.kind).stand all there.stand).marked

pub returns : goal.returns
returns c = λ kinds of same.
    let all : Halves = record { marks = c.self.inside.marks; values = c.self.inside.values } in
    let there = is_there all c.args.self.now c.args.first.var c.row_mut-marks.result.now c.row_mut-values.result.now c.self.invariant c.self.view_is c.if-not-has.ensures c.row_mut-marks.ensures.value c.row_mut-values.ensures.value in
    (c.put_values.ensures of).put all kinds same there.stand ∙ ap (with_cells (home kinds) (row_cells c.args.first of c.args.row)) there.same
