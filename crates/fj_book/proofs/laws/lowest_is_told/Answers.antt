use Rattle.std.proofs.Common.{refl}
use Rattle.fj_book.proofs.laws.lowest_is_told.Goals as goal

pub returns : goal.returns
returns c = record { one_two = refl; one_three = refl; one_three_elsewhere = refl; one_four = refl; one_five = refl; two_three = refl; two_four = refl; two_five = refl; three_four = refl; three_five = refl; four_five = refl }
