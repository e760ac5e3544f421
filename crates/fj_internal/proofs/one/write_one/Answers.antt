use Rattle.std.proofs.Common.{◌∷◌, [], Err, sym, ap, subst, ◌∙◌}
use Rattle.fj_value.specs.declared.condition.Condition.{Condition}
use Rattle.fj_line.specs.declared.unwritten.Unwritten.{Unwritten}
use Rattle.fj_moved.specs.Items.{items_left}
use Rattle.fj_transfer.specs.Change.{changed}
use Rattle.fj_internal.specs.Internal.{Put}
use Rattle.fj_internal.specs.OneElement.{PutsOne}
use Rattle.fj_internal.specs.declared.one.One.{One}
use Rattle.fj_internal.proofs.OneLine.{Printing, if_all, met_one, text_put, OneText}
use Rattle.fj_internal.proofs.one.write_one.Goals as goal

pub returns-in-Ok : goal.returns-in-Ok
returns-in-Ok c =
    let usual = c.change-modes.ensures ∙ ap (changed c.args.spec.now.edit) c.usual_edit.ensures in
    if_all c.one_text.result (OneText c.args.size c.print_items_onto.new.out c.ends_record.result) (PutsOne c.args.size c.args.spec.now (items_left c.args.items))
    (λ (one : One) put. text_put c.args.size c.args.spec.now (items_left c.args.items) c.change-modes.result c.reserve.new.self c.in-Ok.field-0 c.print_items_onto.new.out c.ends_record.result one
    c.requires.output (c.reserve.ensures ∙ c.new-out.ensures) usual c.ends_record.ensures c.in-Ok.ensures put) c.one_text.ensures

pub returns-in-Err-Met : goal.returns-in-Err-Met
returns-in-Err-Met c = λ cell moved long of.
    let usual = c.change-modes.ensures ∙ ap (changed c.args.spec.now.edit) c.usual_edit.ensures in
    let U : Unwritten → Type 0 = λ u. Printing c.args.size c.args.spec.now (items_left c.args.items) c.change-modes.result c.reserve.new.self (Err u) c.print_items_onto.new.out in
    met_one c.args.size c.args.spec.now (items_left c.args.items) c.change-modes.result c.reserve.new.self c.in-Err-Met.condition c.print_items_onto.new.out
    c.requires.output (c.reserve.ensures ∙ c.new-out.ensures) usual (subst U c.in-Err-Met.field-0-is c.in-Err-Met.ensures) cell moved long of
    ∙ ap (λ (k : Condition). let p : Put = record { elements = cell ∷ []; condition = k } in p) (sym c.in-Err-Met.condition-is)
