-- Places, and runs of them.
use Rattle.std.specs.Prelude.{ℕ, zero, suc, ◌+◌, List, [], ◌∷◌}
use Rattle.std.specs.List.{flat_map}
use Rattle.fj_value.specs.declared.place.Place.{Place}
use Rattle.fj_store.specs.declared.run.Run.{Run}
pub use Rattle.fj_moved.specs.Moved.{same_place, is_among, has_twice}

-- so many places of a variable from an index on
abbrev pub counted_from : ℕ → ℕ → ℕ → List Place
counted_from var first zero = []
counted_from var first (suc n) = record { var = var; index = first } ∷ counted_from var (first + 1) n

abbrev pub places_of : Run → List Place
places_of run = counted_from run.var run.first run.count

abbrev pub places_in : List Run → List Place
places_in runs = flat_map places_of runs
