use Rattle.std.proofs.Common.{refl}
use Rattle.fj_book.proofs.laws.decks_are_told.Goals as goal

pub returns : goal.returns
returns c = record { first_read_is_pending = refl; second_read_was_told = refl; written_is_referenced = refl; written_is_not_defined = refl; nothing_to_wait_for = refl; pending_is_waited_for = refl; pending_on_another_unit = refl; below_zero = refl; beside_three_writes = refl; held_by_others = refl; element_is_held = refl; neighbour_is_free = refl }
