-- Files that go back to a disk.
use Rattle.std.specs.Prelude.{◌≡◌, ◌⊎◌, ℕ, Bool, if◌then◌else◌, List, Option, None}
use Rattle.fj_outside.specs.Faults.{Rose}
use Rattle.fj_meaning.specs.State.{Files, with_file, without_file}

-- a file is among the others again, or removed
abbrev pub returned : List ℕ → List ℕ → Bool → Files → Files
returned name bytes keep files = if keep then with_file name bytes files else without_file name files

-- The file is as it was to be. One that was to be gone may be there where the disk's own number rose: then its removal may have
-- been refused.
abbrev pub IsAsDue : ℕ → ℕ → Option (List ℕ) → Option (List ℕ) → Type 0
IsAsDue before now found due = (found ≡ due) ⊎ ((due ≡ None) × Rose before now)
