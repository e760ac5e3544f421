use Rattle.std.proofs.Common.{refl}
use Rattle.fj_book.proofs.laws.specifiers_meet.Goals as goal

pub returns : goal.returns
returns c = record { all_apart = refl; id_and_size = refl; id_and_iostat = refl; size_and_iostat = refl; id_and_item = refl; size_and_item = refl; iostat_and_item = refl; item_twice = refl; array_with_element = refl }
