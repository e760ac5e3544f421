use Rattle.std.proofs.Common.{refl}
use Rattle.fj_transfer.specs.Transfer.{transfer_by}
use Rattle.fj_edit_in.specs.InputField.{trimmed, blanks_read}
use Rattle.fj_value.specs.Digits.{number_in, numeral}
use Rattle.fj_bay.specs.Serving.{serve}
use Rattle.fj_meaning_turns.proofs.cases.fine_ends_no_halt_alone.Goals as goal

pub returns : goal.returns
unfolding serve transfer_by trimmed blanks_read number_in numeral
returns c = ((refl, refl), refl)
