use Rattle.fj_value.proofs.DigitLaws.{digits_are, digits_only}
use Rattle.fj_value.proofs.digits.digits_are_unique.Goals as goal

pub returns : goal.returns
returns c = λ base n low. (digits_are base n low, λ ds. digits_only base n ds low)
