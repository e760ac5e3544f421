use Rattle.std.proofs.Common.{refl}
use Rattle.fj_bay.specs.Serving.{serve}
use Rattle.fj_transfer.specs.Transfer.{transfer_by}
use Rattle.fj_edit_in.specs.InputField.{trimmed, blanks_read}
use Rattle.fj_bay.proofs.cases.first_changes.Goals as goal

pub returns : goal.returns
unfolding serve transfer_by trimmed blanks_read
returns c = (refl, refl, refl)
