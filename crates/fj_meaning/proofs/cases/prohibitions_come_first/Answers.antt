use Rattle.std.proofs.Common.{refl}
use Rattle.fj_meaning.specs.Statement.{step}
use Rattle.fj_transfer.specs.Transfer.{transfer_by}
use Rattle.fj_edit_in.specs.InputField.{trimmed, blanks_read}
use Rattle.fj_value.specs.Digits.{number_in, numeral}
use Rattle.fj_meaning.proofs.cases.prohibitions_come_first.Goals as goal

pub returns : goal.returns
unfolding step transfer_by trimmed blanks_read number_in numeral
returns c = ((refl, refl), refl, (refl, refl))
