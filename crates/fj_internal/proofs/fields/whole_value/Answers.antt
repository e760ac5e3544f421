use Rattle.std.proofs.Common.{◌∙◌}
use Rattle.fj_value.specs.declared.value.Value.TheVariants.{Undefined}
use Rattle.fj_transfer.proofs.FieldLemmas.{value_read}
use Rattle.fj_internal.proofs.fields.whole_value.Goals as goal

pub returns : goal.returns
returns c = c.told.ensures ∙ value_read c.args.edit c.args.kind c.args.modes.blank_zero c.args.chars.now Undefined c.read_field.new.out c.in_ok-condition.condition c.in_ok-condition.ensures.ok
