use Rattle.fj_edit_laws.proofs.Shown.{values_as_fields}
use Rattle.fj_edit_laws.proofs.values_are_shown_as_fields.Goals as goal

pub returns : goal.returns
returns c = values_as_fields
