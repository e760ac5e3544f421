use Rattle.std.proofs.Common.{[], ◌++◌, map, refl, ap}
use Rattle.fj_store.specs.Cases.{out}
use Rattle.fj_store.specs.Storage.{cell_at}
use Rattle.fj_store.proofs.laws.outputs_have_cells.Goals as goal

pub returns : goal.returns
returns c = record { own_values = refl; same_value_twice = refl; place_that_is_out = λ run one. ap (λ ps. map (cell_at out) ps ++ []) one; between_places = λ run. refl }
