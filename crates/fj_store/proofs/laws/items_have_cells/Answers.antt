use Rattle.std.proofs.Common.{refl}
use Rattle.fj_store.proofs.laws.items_have_cells.Goals as goal

pub returns : goal.returns
returns c = record { in_order = refl; item_twice = refl; element_before_its_array = refl; element_behind_its_array = refl; no_item = refl }
