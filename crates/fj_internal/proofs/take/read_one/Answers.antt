use Rattle.std.proofs.Common.{◌≡◌, ◌∷◌, [], sym, ap, ◌∙◌}
use Rattle.fj_transfer.specs.Change.{changed}
use Rattle.fj_transfer.specs.Printing.{control_of}
use Rattle.fj_transfer.specs.declared.explicit.Performed.{Performed}
use Rattle.fj_transfer.specs.declared.transfer.Layout.TheVariants.{Explicit, Listed}
use Rattle.fj_internal.specs.OneElement.{TakesOne}
use Rattle.fj_internal.specs.Records.{records_taken, taken_with}
use Rattle.fj_internal.proofs.OneLine.{if_all}
use Rattle.fj_internal.proofs.OneTaken.{one_refused, one_taken}
use Rattle.fj_internal.proofs.take.read_one.Goals as goal

pub returns-then-holds_line_end-clause-taken : goal.returns-then-holds_line_end-clause-taken
returns-then-holds_line_end-clause-taken c =
    one_refused c.args.text.now c.args.spec.now c.args.moved.now c.leave.new.cells c.leave.result (sym c.holds_line_end.ensures ∙ c.if-holds_line_end.true) c.leave.ensures.taken

pub returns-in-Explicit-clause-taken : goal.returns-in-Explicit-clause-taken
returns-in-Explicit-clause-taken c =
    let layout = Explicit c.in-Explicit.format in
    if_all c.take_explicit.result
    (λ (performed : Performed). taken_with c.take_explicit.new.moved.cells performed ≡ records_taken (Explicit c.in-Explicit.format) (control_of (Explicit c.in-Explicit.format)) c.args.spec.now.advance c.change-modes.result c.args.moved.now (c.args.text.now ∷ []))
    (TakesOne c.args.text.now c.args.spec.now c.args.moved.now c.take_explicit.new.moved.cells)
    (λ (performed : Performed) e. one_taken c.args.text.now c.args.spec.now c.args.moved.now c.take_explicit.new.moved.cells performed layout c.change-modes.result c.requires.input
    (sym c.holds_line_end.ensures ∙ c.if-holds_line_end.false) (c.change-modes.ensures ∙ ap (changed c.args.spec.now.edit) c.usual_edit.ensures) c.in-Explicit.is e) c.take_explicit.ensures.taken

pub returns-in-Listed-clause-taken : goal.returns-in-Listed-clause-taken
returns-in-Listed-clause-taken c =
    if_all c.take_listed.result
    (λ (performed : Performed). taken_with c.take_listed.new.moved.cells performed ≡ records_taken Listed (control_of Listed) c.args.spec.now.advance c.change-modes.result c.args.moved.now (c.args.text.now ∷ []))
    (TakesOne c.args.text.now c.args.spec.now c.args.moved.now c.take_listed.new.moved.cells)
    (λ (performed : Performed) e. one_taken c.args.text.now c.args.spec.now c.args.moved.now c.take_listed.new.moved.cells performed Listed c.change-modes.result c.requires.input
    (sym c.holds_line_end.ensures ∙ c.if-holds_line_end.false) (c.change-modes.ensures ∙ ap (changed c.args.spec.now.edit) c.usual_edit.ensures) c.in-Listed.is e) c.take_listed.ensures.taken
