use Rattle.fj_value.proofs.DigitLaws.{is_twos_complement}
use Rattle.fj_value.proofs.digits.twos_complement_is_exact.Goals as goal

pub returns : goal.returns
returns c = is_twos_complement
