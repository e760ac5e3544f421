-- Which units have the files that are out.
use Rattle.std.specs.Prelude.{◌≡◌, ℕ, Bool, false, List, [], ◌∷◌}
use Rattle.std.specs.List.{list_any}
use Rattle.std.specs.Str.{bytes_eq}
use Rattle.fj_meaning_jobs.specs.Core.{Connected, has_name}
use Rattle.fj_run_units.specs.Names.{stands}

-- no two of them are alike
abbrev pub Differ : (Connected → Connected → Bool) → List Connected → Type 0
Differ alike [] = Unit {0}
Differ alike (u ∷ us) = (list_any (alike u) us ≡ false) × Differ alike us

-- they have the same file
abbrev pub same_file : Connected → Connected → Bool
same_file u v = bytes_eq u.name v.name

-- no two of them have the same file
abbrev pub DifferInFile : List Connected → Type 0
DifferInFile us = Differ same_file us

-- The files that are out are those of the units, each of one of them.
abbrev pub HaveFiles : List (List ℕ) → List Connected → Type 0
HaveFiles names us = ((name : List ℕ) → stands names name ≡ has_name us name) × DifferInFile us
