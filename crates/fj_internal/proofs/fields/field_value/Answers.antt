use Rattle.std.proofs.Common.{◌≡◌, subst, Result}
use Rattle.std.specs.Prelude.{IfOk}
use Rattle.fj_value.specs.declared.value.Value.{Value}
use Rattle.fj_value.specs.declared.condition.Condition.{Condition}
use Rattle.fj_edit_in.specs.InputField.{input_field}
use Rattle.fj_transfer.proofs.FieldLemmas.{all_there}
use Rattle.fj_internal.proofs.fields.field_value.Goals as goal

pub returns-then-chars-width : goal.returns-then-chars-width
returns-then-chars-width c =
    let P : Result Value Condition → Type 0 = λ due. IfOk c.whole_value.result (λ read. read ≡ due) in
    subst P (all_there c.args.modes.pad c.args.width c.args.chars.now (λ cs. input_field c.args.edit c.args.kind c.args.modes.blank_zero cs) c.if-chars-width.true) c.whole_value.ensures
