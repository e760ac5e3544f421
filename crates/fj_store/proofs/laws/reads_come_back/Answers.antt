use Rattle.std.proofs.Common.{refl}
use Rattle.fj_store.proofs.laws.reads_come_back.Goals as goal

pub returns : goal.returns
returns c = record { first_is_out = refl; second_is_out = refl; second_comes = refl; first_stays_out = refl; taken_again = refl; stays_out = refl; order_of_coming = refl; null_value = refl; item_twice = refl; array_with_element = refl }
