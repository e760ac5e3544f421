use Rattle.std.specs.Prelude.{IfOk}
use Rattle.std.proofs.Common.{◌≡◌, ◌||◌, not, true, false, List, ℕ, OnErr, refl, subst, arith}
use Rattle.fj_value.specs.declared.condition.Condition.{Condition}
use Rattle.fj_moved.specs.declared.moved.Moved.{Moved}
use Rattle.fj_meaning.specs.State.{Output}
use Rattle.fj_meaning.specs.Telling.{is_asynchronous}
use Rattle.fj_meaning.specs.Transfers.{layout_of}
use Rattle.fj_store.specs.Storage.{values_of}
use Rattle.fj_transfer.specs.Printing.{actions_by, control_of}
use Rattle.fj_transfer.specs.Transfer.{is_explicit, is_formatted}
use Rattle.fj_transfer.specs.declared.transfer.Layout.{Layout}
use Rattle.fj_run_items.specs.Handing.{printed_on, HandsFront, HandsPart}
use Rattle.std.proofs.lemmas.Bool.{false≢true}
use Rattle.fj_run_items.proofs.Finds.{layout_grouped, grouped, of_items, print_low}
use Rattle.fj_run_items.proofs.Prints.{on_err, nothing_printed, by_layout, star_is}
use Rattle.fj_run_items.proofs.star.write_star.Given
use Rattle.fj_run_items.proofs.star.write_star.Goals as goal
use Rattle.fj_run_items.proofs.star.write_star.Goals.{After-open_is_part, After-print, After-print-2}

-- where nothing is written nothing is handed on
nothing : (g : Given.Over) (c : After-open_is_part g) → HandsFront (g.W.Sink.taken c.args.out.now) (g.W.Sink.taken c.args.out.now) c.args.output.now
    (printed_on c.args.variables.now (values_of c.args.store.now) c.args.t.now c.args.output.now).0
nothing g c =
    let taken : List ℕ = g.W.Sink.taken c.args.out.now in
    nothing_printed c.args.variables.now (values_of c.args.store.now) c.args.t.now c.args.output.now taken taken c.open_is_part.ensures refl

pub returns-in_err-moved-clause-front : goal.returns-in_err-moved-clause-front
returns-in_err-moved-clause-front g c = λ _. on_err c.from_residual-in_err-moved.result _ (nothing g (goal.at.returns-in_err-moved-clause-front g c).After-open_is_part)

pub returns-in_err-layout-2-clause-front : goal.returns-in_err-layout-2-clause-front
returns-in_err-layout-2-clause-front g c = λ _. on_err c.from_residual-in_err-layout-2.result _ (nothing g (goal.at.returns-in_err-layout-2-clause-front g c).After-open_is_part)

pub returns-in_err-layout-clause-front : goal.returns-in_err-layout-clause-front
returns-in_err-layout-clause-front g c = λ _. on_err c.from_residual.result _ (nothing g (goal.at.returns-in_err-layout-clause-front g c).After-open_is_part)

pub returns-then-not-is_grouped-clause-front : goal.returns-then-not-is_grouped-clause-front
returns-then-not-is_grouped-clause-front g c = λ _. nothing g (goal.at.returns-then-not-is_grouped-clause-front g c).After-open_is_part

-- ---- copies of its items

pub returns-then-not-is_grouped-clause-fits : goal.returns-then-not-is_grouped-clause-fits
returns-then-not-is_grouped-clause-fits g c = λ is low _.
    let same = layout_grouped c.args.variables.now c.args.t.now.control c.in_ok-moved.moved.cells c.in_ok-layout-2.layout c.len.result c.len.ensures c.in_ok-layout-2.ensures
    (grouped c.args.variables.now (values_of c.args.store.now) c.args.t.now c.in_ok-moved.moved is c.in_ok-moved.ensures.moved) in
    absurd (false≢true (c.if-not-is_grouped.ensures.1 same))

-- what is printed by their layout is what the statement prints
copied : (g : Given.Over) (c : After-print-2 g) → by_layout c.in_ok-layout-2.layout c.change-modes.result c.unwrap_or-advance.result c.in_ok-moved.moved c.args.output.now
    ≡ printed_on c.args.variables.now (values_of c.args.store.now) c.args.t.now c.args.output.now
copied g c =
    let sync : is_asynchronous c.args.t.now ≡ false = grind (arith, c.unwrap_or.ensures, c.if-unwrap_or.false) in
    let formatted : is_formatted (layout_of c.args.variables.now c.in_ok-moved.moved.cells c.args.t.now.control) ≡ true = grind (arith, c.is_formatted.ensures c.args.variables.now c.in_ok-moved.moved.cells, c.if-not-is_formatted.false) in
    star_is c.args.variables.now (values_of c.args.store.now) c.args.t.now c.args.output.now c.in_ok-moved.moved c.in_ok-layout-2.layout c.edit_of.result c.usual_edit.result c.change-modes.result c.unwrap_or-advance.result
    sync formatted c.in_ok-moved.ensures.moved c.in_ok-layout-2.ensures c.edit_of.ensures c.usual_edit.ensures c.change-modes.ensures c.unwrap_or-advance.ensures

pub returns-clause-limit : goal.returns-clause-limit
returns-clause-limit g c = λ low.
    let layout : Layout = c.in_ok-layout-2.layout in
    print_low c.print-2.result (c.unwrap_or-advance.result || not (is_explicit layout)) c.args.output.now c.print-2.new.self (actions_by layout (control_of layout) c.change-modes.result c.unwrap_or-advance.result c.in_ok-moved.moved) low c.print-2.ensures.printed

pub returns-clause-front : goal.returns-clause-front
returns-clause-front g c = λ tells.
    subst (λ (p : Output × Condition). OnErr c.print-2.result (HandsFront (g.W.Sink.taken c.args.out.now) (g.W.Sink.taken c.print-2.new.out) c.args.output.now p.0)) (copied g (goal.at.returns-clause-front g c).After-print-2) (c.print-2.ensures.front tells)

pub returns-clause-part : goal.returns-clause-part
returns-clause-part g c = λ tells failed.
    subst (λ (p : Output × Condition). HandsPart (g.W.Sink.taken c.args.out.now) (g.W.Sink.taken c.print-2.new.out) c.args.output.now p.0) (copied g (goal.at.returns-clause-part g c).After-print-2) (c.print-2.ensures.part tells failed)

-- ---- a run where it stands

pub print-requires : goal.print-requires
print-requires g c = of_items c.args.variables.now c.args.t.now.control c.in-Some.row.cells c.in_ok-layout.layout c.in-Some.ensures.items (c.in_ok-layout.ensures c.args.variables.now c.in-Some.row.cells)

-- what is printed by its layout is what the statement prints
lent : (g : Given.Over) (c : After-print g) → by_layout c.in_ok-layout.layout c.change-modes.result c.unwrap_or-advance.result c.in-Some.row c.args.output.now
    ≡ printed_on c.args.variables.now (values_of c.args.store.now) c.args.t.now c.args.output.now
lent g c =
    let sync : is_asynchronous c.args.t.now ≡ false = grind (arith, c.unwrap_or.ensures, c.if-unwrap_or.false) in
    let row : Moved = c.in-Some.row in
    let formatted : is_formatted (layout_of c.args.variables.now row.cells c.args.t.now.control) ≡ true = grind (arith, c.is_formatted.ensures c.args.variables.now row.cells, c.if-not-is_formatted.false) in
    star_is c.args.variables.now (values_of c.args.store.now) c.args.t.now c.args.output.now row c.in_ok-layout.layout c.edit_of.result c.usual_edit.result c.change-modes.result c.unwrap_or-advance.result
    sync formatted c.in-Some.ensures.moved (c.in_ok-layout.ensures c.args.variables.now row.cells) c.edit_of.ensures c.usual_edit.ensures c.change-modes.ensures c.unwrap_or-advance.ensures

pub returns-in-Some-clause-printed : goal.returns-in-Some-clause-printed
returns-in-Some-clause-printed g c = subst (λ (p : Output × Condition). IfOk c.print.result (λ condition. (c.print.new.self, condition) ≡ p)) (lent g (goal.at.returns-in-Some-clause-printed g c).After-print) c.print.ensures.printed

pub returns-in-Some-clause-limit : goal.returns-in-Some-clause-limit
returns-in-Some-clause-limit g c = λ low.
    let layout : Layout = c.in_ok-layout.layout in
    print_low c.print.result (c.unwrap_or-advance.result || not (is_explicit layout)) c.args.output.now c.print.new.self (actions_by layout (control_of layout) c.change-modes.result c.unwrap_or-advance.result c.in-Some.row) low c.print.ensures.printed

pub returns-in-Some-clause-front : goal.returns-in-Some-clause-front
returns-in-Some-clause-front g c = λ tells.
    subst (λ (p : Output × Condition). OnErr c.print.result (HandsFront (g.W.Sink.taken c.args.out.now) (g.W.Sink.taken c.print.new.out) c.args.output.now p.0)) (lent g (goal.at.returns-in-Some-clause-front g c).After-print) (c.print.ensures.front tells)

pub returns-in-Some-clause-part : goal.returns-in-Some-clause-part
returns-in-Some-clause-part g c = λ tells failed.
    subst (λ (p : Output × Condition). HandsPart (g.W.Sink.taken c.args.out.now) (g.W.Sink.taken c.print.new.out) c.args.output.now p.0) (lent g (goal.at.returns-in-Some-clause-part g c).After-print) (c.print.ensures.part tells failed)
