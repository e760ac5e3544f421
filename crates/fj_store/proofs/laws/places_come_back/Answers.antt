use Rattle.std.proofs.Common.{refl}
use Rattle.fj_store.proofs.laws.places_come_back.Goals as goal

pub returns : goal.returns
returns c = record { begins_undefined = refl; home = refl; out = refl; neighbour = refl; undefined_is_not_out = refl; comes_back_changed = refl; comes_back_undefined = refl; another_kind = refl; too_large = refl; lowest = refl; too_low = refl; largest = refl; characters = refl; characters_of_another_length = refl }
