use Rattle.std.proofs.Common.{refl}
use Rattle.fj_book.proofs.laws.statements_are_told.Goals as goal

pub returns : goal.returns
returns c = record { read_of_two = refl; its_wait = refl; first_read = refl; second_read = refl; wait_for_second = refl; first_is_referenced = refl; write = refl; write_elsewhere = refl; item_is_defined = refl; wait_for_no_unit = refl; wait_for_all = refl; second_write = refl; third_write = refl; read_elsewhere = refl }
