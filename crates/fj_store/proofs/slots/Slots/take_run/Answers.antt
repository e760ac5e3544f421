use Rattle.std.proofs.Common.{List, ap, subst, sym, ◌∙◌}
use Rattle.fj_store.specs.Rows.{Halves}
use Rattle.fj_store.specs.declared.slot.Slot.{Slot}
use Rattle.fj_store.specs.Places.{places_of}
use Rattle.fj_store.specs.Taking.{IsMarked, take_all, taking}
use Rattle.fj_store.proofs.RowLemmas.{in_values, is_there, no_row}
use Rattle.fj_store.proofs.slots.Slots.take_run.Goals as goal

pub row_mut-values-requires : goal.row_mut-values-requires
row_mut-values-requires c = in_values c.self.inside.marks c.self.inside.values c.args.run.var c.self.invariant c.if-not-has.ensures

pub returns-then-not-has-clause-taken : goal.returns-then-not-has-clause-taken
returns-then-not-has-clause-taken c =
    c.take_missing.ensures.taken c.args.self.now (no_row c.self.inside.marks c.self.inside.values c.args.self.now c.args.run.var c.self.view_is c.if-not-has.ensures) c.requires.marked

pub returns-then-not-has-clause-marked : goal.returns-then-not-has-clause-marked
returns-then-not-has-clause-marked c =
    c.take_missing.ensures.marked c.args.self.now (no_row c.self.inside.marks c.self.inside.values c.args.self.now c.args.run.var c.self.view_is c.if-not-has.ensures) c.requires.marked

pub invariant_of-self : goal.invariant_of-self
invariant_of-self c =
    let all : Halves = record { marks = c.self.inside.marks; values = c.self.inside.values } in
    let there = is_there all c.args.self.now c.args.run.var c.row_mut-marks.result.now c.row_mut-values.result.now c.self.invariant c.self.view_is c.if-not-has.ensures c.row_mut-marks.ensures.value c.row_mut-values.ensures.value in
    (c.take_run.ensures.taken.stand all there.stand).marked

pub returns-clause-taken : goal.returns-clause-taken
returns-clause-taken c =
    let all : Halves = record { marks = c.self.inside.marks; values = c.self.inside.values } in
    let there = is_there all c.args.self.now c.args.run.var c.row_mut-marks.result.now c.row_mut-values.result.now c.self.invariant c.self.view_is c.if-not-has.ensures c.row_mut-marks.ensures.value c.row_mut-values.ensures.value in
    let marked = subst (λ (rows : List (List Slot)). IsMarked rows c.args.taken.now.cells.items) (sym there.same) c.requires.marked in
    c.take_run.ensures.taken.taken all there.stand marked ∙ ap (λ rows. take_all c.args.kind (taking rows c.args.taken.now) (places_of c.args.run)) there.same

pub returns-clause-marked : goal.returns-clause-marked
returns-clause-marked c =
    let all : Halves = record { marks = c.self.inside.marks; values = c.self.inside.values } in
    let there = is_there all c.args.self.now c.args.run.var c.row_mut-marks.result.now c.row_mut-values.result.now c.self.invariant c.self.view_is c.if-not-has.ensures c.row_mut-marks.ensures.value c.row_mut-values.ensures.value in
    c.take_run.ensures.taken.marked all there.stand (subst (λ (rows : List (List Slot)). IsMarked rows c.args.taken.now.cells.items) (sym there.same) c.requires.marked)
