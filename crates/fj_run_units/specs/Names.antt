-- The names of the files that are out of a disk, kept beside it.
use Rattle.std.specs.Prelude.{◌≡◌, ℕ, Bool, List, not, filter}
use Rattle.std.specs.List.{list_any}
use Rattle.std.specs.Str.{bytes_eq}
use Rattle.std.specs.FinSet as set
use Rattle.fj_outside.specs.Holdings.{Names}

-- a name is one of them
abbrev pub stands : List (List ℕ) → List ℕ → Bool
stands names name = list_any (λ (other : List ℕ). bytes_eq other name) names

abbrev pub left_of : List (List ℕ) → List ℕ → List (List ℕ)
left_of names name = filter (λ (other : List ℕ). not (bytes_eq other name)) names

-- they are just the names whose files are out
abbrev pub AreInUse : List (List ℕ) → Names → Type 0
AreInUse names in_use = (name : List ℕ) → set.contains in_use name ≡ stands names name
