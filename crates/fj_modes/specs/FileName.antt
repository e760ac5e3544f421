-- Names of files.
use Rattle.std.specs.Prelude.{◌≡◌, ◌<◌, ◌^◌, ℕ, ℤ, Bool, true, false, ◌&&◌, ◌||◌, ◌==◌, ◌++◌, not, nat_le, List, length, codes, nat_eq}
use Rattle.std.specs.List.{list_all, starts_with}
use Rattle.std.specs.Char.{is_ascii_alphanumeric}
use Rattle.std.specs.Fmt.{decimal, signed_decimal}

-- a letter, a digit, `.`, `_` or `-`
abbrev pub is_file_byte : ℕ → Bool
is_file_byte x = ((is_ascii_alphanumeric x || (x == 46)) || (x == 95)) || (x == 45)

-- a name of the disk: 1 to 64 such bytes, with no `.` in front
unfoldable pub is_disk_name : List ℕ → Bool
is_disk_name cs = nat_le (length cs) 64 && (not (length cs == 0) && (list_all is_file_byte cs && not (starts_with nat_eq cs (codes "."))))

-- a name that a deck may spell: it has no `SCRATCH.` in front
unfoldable pub is_file_name : List ℕ → Bool
is_file_name cs = is_disk_name cs && not (starts_with nat_eq cs (codes "SCRATCH."))

-- the name of a unit's scratch file
abbrev pub scratch_name : ℤ → List ℕ
scratch_name unit = codes "SCRATCH." ++ signed_decimal unit

-- the name of the file that a unit is connected to where FILE= does not stand; 9.4.5.8 leaves it to the processor
abbrev pub default_name : ℕ → List ℕ
default_name unit = codes "fort." ++ decimal unit
