use Rattle.fj_value.proofs.DigitLaws.{number_in-numeral}
use Rattle.fj_value.proofs.DigitCases.{AreRight, are_right}
use Rattle.fj_value.proofs.digits.numerals_are_read.Goals as goal

pub returns : goal.returns
returns c = let _cases : AreRight = are_right in number_in-numeral
