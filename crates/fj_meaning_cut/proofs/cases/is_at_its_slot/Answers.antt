use Rattle.std.proofs.Common.{refl}
use Rattle.fj_bay.specs.Serving.{serve}
use Rattle.fj_transfer.specs.Transfer.{transfer_by}
use Rattle.fj_edit_in.specs.InputField.{trimmed, blanks_read}
use Rattle.fj_value.specs.Digits.{number_in, numeral}
use Rattle.fj_meaning_jobs.specs.Desking.{desk_step}
use Rattle.fj_meaning_cut.proofs.cases.is_at_its_slot.Goals as goal

pub returns : goal.returns
unfolding desk_step serve transfer_by trimmed blanks_read number_in numeral
returns c = refl
