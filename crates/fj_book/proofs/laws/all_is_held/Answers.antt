use Rattle.std.proofs.Common.{refl}
use Rattle.fj_book.proofs.laws.all_is_held.Goals as goal

pub returns : goal.returns
returns c = record { size_is_referenced = refl; size_is_defined = refl; element_of_array = refl; element_of_written_array = refl; behind_the_first = refl; before_the_last = refl; of_another_unit = refl }
