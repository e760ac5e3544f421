use Rattle.std.proofs.Common.{sym, ◌∙◌}
use Rattle.std.proofs.lemmas.Bool.{and_right}
use Rattle.std.proofs.lemmas.Result.{err_from_is_err_and}
use Rattle.fj_names.proofs.Transferring.{not_allowed, items_fail, parts_fail, beyond, assembles}
use Rattle.fj_names.proofs.transfer.transferred.Goals as goal

pub returns-then-not-is_allowed : goal.returns-then-not-is_allowed
returns-then-not-is_allowed c = not_allowed c.args.names.now c.in_ok-items.items c.args.transfer.now c.in_ok-items.ensures.0 (sym c.is_allowed.ensures ∙ c.if-not-is_allowed.true)

pub returns-in_err-operands : goal.returns-in_err-operands
returns-in_err-operands c =
    let p = err_from_is_err_and c.from_residual-in_err-operands.result c.from_residual-in_err-operands.ensures.1 in
    rw (p.1, p.2) (items_fail c.args.names.now c.in_ok-items.items c.args.transfer.now c.in_err-operands.field-0.0 c.in_ok-items.ensures.0 (rw c.as_slice.ensures at c.in_err-operands.ensures))

pub returns-in_err-parts : goal.returns-in_err-parts
returns-in_err-parts c =
    let p = err_from_is_err_and c.from_residual-in_err-parts.result c.from_residual-in_err-parts.ensures.1 in
    rw (p.1, p.2) (parts_fail c.args.names.now c.in_ok-items.items c.args.transfer.now c.in_err-parts.field-0.0 c.in_ok-operands.operands c.in_ok-operands.few c.in_ok-items.ensures.0 (rw c.as_slice.ensures at c.in_ok-operands.ensures) c.in_err-parts.ensures)

pub returns-then-not-few : goal.returns-then-not-few
returns-then-not-few c =
    beyond c.args.names.now c.in_ok-items.items c.args.transfer.now c.in_ok-items.ensures.0 (sym c.is_allowed.ensures ∙ c.if-not-is_allowed.false) c.in_ok-operands.operands c.in_ok-operands.few (rw c.as_slice.ensures at c.in_ok-operands.ensures)
    c.in_ok-parts.parts c.in_ok-parts.ensures (and_right _ _ c.if-not-few.true)

pub returns : goal.returns
returns c =
    assembles c.args.names.now c.in_ok-items.items c.args.transfer.now c.in_ok-items.ensures.0 (sym c.is_allowed.ensures ∙ c.if-not-is_allowed.false) c.in_ok-operands.operands c.in_ok-operands.few (rw c.as_slice.ensures at c.in_ok-operands.ensures)
    c.in_ok-parts.parts c.in_ok-parts.ensures c.if-not-few.false c.assembled.result c.assembled.ensures
