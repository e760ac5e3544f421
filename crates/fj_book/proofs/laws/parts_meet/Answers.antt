use Rattle.std.proofs.Common.{refl}
use Rattle.fj_book.proofs.laws.parts_meet.Goals as goal

pub returns : goal.returns
returns c = record { two_specifiers = refl; last_two_specifiers = refl; three_specifiers = refl; specifier_and_item = refl; specifier_and_other_item = refl; specifier_and_internal_file = refl; item_and_internal_file = refl; item_beside_internal_file = refl; item_twice = refl }
