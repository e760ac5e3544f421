use Rattle.std.proofs.Common.{◌≡◌, ℕ, List, Ok, Err, sym, ap, subst, ◌∙◌, Bool}
use Rattle.std.specs.Prelude.{IfOk}
use Rattle.fj_value.specs.declared.edit.EditModes.{EditModes}
use Rattle.fj_modes.specs.Modes.{usual_edit}
use Rattle.fj_line.specs.declared.unwritten.Unwritten.{Unwritten}
use Rattle.fj_line.specs.declared.unwritten.Unwritten.TheVariants.{Met}
use Rattle.fj_transfer.specs.Change.{changed}
use Rattle.fj_transfer.specs.Printing.{control_of, printed}
use Rattle.fj_transfer.specs.Transfer.{ends_record}
use Rattle.fj_transfer.specs.Writing.{Prints}
use Rattle.fj_internal.specs.Internal.{Put, put_if_fine, record_length}
use Rattle.fj_internal.proofs.Writing.{inside_is, prints_text, prints_none, text_condition}
use Rattle.fj_internal.proofs.write.write_internal.Goals as goal

pub returns-in-Ok-clause-put : goal.returns-in-Ok-clause-put
returns-in-Ok-clause-put c =
    let job = c.args.job.now in
    let elements = c.args.elements.now in
    let control = control_of job.spec.layout in
    let out = c.print_onto.new.out in
    let N : ℕ → Type 0 = λ n. Prints 0 (printed n 0 c.args.job.now.spec (control_of c.args.job.now.spec.layout) c.change-modes.result c.args.job.now.moved) c.new-out.result (Ok c.in-Ok.field-0) c.print_onto.new.out in
    let M : EditModes → Type 0 = λ m. Prints 0 (printed (record_length c.args.elements.now) 0 c.args.job.now.spec (control_of c.args.job.now.spec.layout) m c.args.job.now.moved) c.new-out.result (Ok c.in-Ok.field-0) c.print_onto.new.out in
    let O : List ℕ → Type 0 = λ old. Prints 0 (printed (record_length c.args.elements.now) 0 c.args.job.now.spec (control_of c.args.job.now.spec.layout) (changed c.args.job.now.spec.edit usual_edit) c.args.job.now.moved) old (Ok c.in-Ok.field-0) c.print_onto.new.out in
    let prints = subst O c.new-out.ensures (subst M (c.change-modes.ensures ∙ ap (changed job.spec.edit) c.usual_edit.ensures) (subst N c.record_length-size.ensures c.in-Ok.ensures)) in
    let same = ap (λ (t : List ℕ). put_if_fine t c.args.elements.now (text_condition t c.ends_record.result)) c.bytes.ensures
    ∙ ap (λ (b : Bool). put_if_fine c.print_onto.new.out c.args.elements.now (text_condition c.print_onto.new.out b)) c.ends_record.ensures
    ∙ prints_text (ends_record job.spec) job.moved.cells elements (printed (record_length elements) 0 job.spec control (changed job.spec.edit usual_edit) job.moved) c.in-Ok.field-0 out prints
    ∙ sym (inside_is control elements job.spec job.moved c.requires) in
    let P : Put → Type 0 = λ q. IfOk c.put_text.result (λ condition. ◌≡◌ {A = Put} (record { elements = c.put_text.new.elements; condition = condition }) q) in
    subst P same c.put_text.ensures.put

pub returns-in-Met-clause-put : goal.returns-in-Met-clause-put
returns-in-Met-clause-put c =
    let job = c.args.job.now in
    let elements = c.args.elements.now in
    let control = control_of job.spec.layout in
    let out = c.print_onto.new.out in
    let U : Unwritten → Type 0 = λ u. Prints 0 (printed c.record_length-size.result 0 c.args.job.now.spec (control_of c.args.job.now.spec.layout) c.change-modes.result c.args.job.now.moved) c.new-out.result (Err u) c.print_onto.new.out in
    let N : ℕ → Type 0 = λ n. Prints 0 (printed n 0 c.args.job.now.spec (control_of c.args.job.now.spec.layout) c.change-modes.result c.args.job.now.moved) c.new-out.result (Err (Met c.in-Met.condition)) c.print_onto.new.out in
    let M : EditModes → Type 0 = λ m. Prints 0 (printed (record_length c.args.elements.now) 0 c.args.job.now.spec (control_of c.args.job.now.spec.layout) m c.args.job.now.moved) c.new-out.result (Err (Met c.in-Met.condition)) c.print_onto.new.out in
    let O : List ℕ → Type 0 = λ old. Prints 0 (printed (record_length c.args.elements.now) 0 c.args.job.now.spec (control_of c.args.job.now.spec.layout) (changed c.args.job.now.spec.edit usual_edit) c.args.job.now.moved) old (Err (Met c.in-Met.condition)) c.print_onto.new.out in
    let prints = subst O c.new-out.ensures (subst M (c.change-modes.ensures ∙ ap (changed job.spec.edit) c.usual_edit.ensures) (subst N c.record_length-size.ensures (subst U c.in-Met.is c.in-Err.ensures))) in
    prints_none (ends_record job.spec) job.moved.cells elements (printed (record_length elements) 0 job.spec control (changed job.spec.edit usual_edit) job.moved) c.in-Met.condition out prints
    ∙ sym (inside_is control elements job.spec job.moved c.requires)
