-- What a table of entries holds, as a disk.
use Rattle.std.specs.Prelude.{◌≡◌, ℕ, Bool, true, false, List, [], ◌∷◌, Option, Some, None, String, string_bytes, if◌then◌else◌}
use Rattle.std.specs.Ordering.{nat_cmp}
use Rattle.std.specs.Cmp.Lexicographic.{slice_cmp}
use Rattle.std.specs.BTreeMap.{is_at}
use Rattle.std.specs.Map.{lookup}
use Rattle.std.specs.Str.{bytes_eq}
use Rattle.std.specs.declared.alloc.Global.{Global}
use Rattle.std.specs.FinMap as map
use Rattle.std.specs.FinSet as set
use Rattle.fj_outside.specs.Holdings.{Names, Files, Holdings}
use Rattle.fj_outside.specs.declared.table.Slot.{Slot}
use Rattle.fj_outside.specs.declared.table.Slot.TheVariants.{Home, InUse, Gone}
use Rattle.fj_outside.specs.declared.table.Entry.{Entry}

abbrev pub Entries : Type 0
Entries = List (String Global × Entry)

-- what stands under a name
abbrev pub entry_at : Entries → List ℕ → Option Entry
entry_at entries name = lookup (is_at (λ (key : String Global). slice_cmp nat_cmp name (string_bytes key))) entries

abbrev pub file_in : Slot → Option (List ℕ)
file_in (Home bytes) = Some bytes
file_in InUse = None
file_in Gone = None

abbrev pub is_out : Slot → Bool
is_out (Home bytes) = false
is_out InUse = true
is_out Gone = false

-- the same of what stands under a name, where nothing may stand
abbrev pub file_of : Option Entry → Option (List ℕ)
file_of None = None
file_of (Some entry) = file_in entry.slot

abbrev pub in_use_by : Option Entry → Bool
in_use_by None = false
in_use_by (Some entry) = is_out entry.slot

abbrev pub hurt_by : Option Entry → Bool
hurt_by None = false
hurt_by (Some entry) = entry.hurt

abbrev pub set_file : Files → List ℕ → Option (List ℕ) → Files
set_file files name None = map.remove files name
set_file files name (Some bytes) = map.insert files name bytes

abbrev pub set_name : Names → List ℕ → Bool → Names
set_name names name true = set.insert names name
set_name names name false = set.remove names name

abbrev pub files_of : Entries → Files
files_of [] = map.empty
files_of (e ∷ es) = set_file (files_of es) (string_bytes e.0) (file_in e.1.slot)

abbrev pub in_use_of : Entries → Names
in_use_of [] = set.empty
in_use_of (e ∷ es) = set_name (in_use_of es) (string_bytes e.0) (is_out e.1.slot)

abbrev pub hurt_of : Entries → Names
hurt_of [] = set.empty
hurt_of (e ∷ es) = set_name (hurt_of es) (string_bytes e.0) e.1.hurt

abbrev pub held_of : Entries → Holdings
held_of entries = record { files = files_of entries; in_use = in_use_of entries; hurt = hurt_of entries }

-- under this name stands that entry, and under all others what stood there before
pub record Puts (old new : Entries) (name : List ℕ) (entry : Entry) : Type 0 where
  pub each : (q : List ℕ) → entry_at new q ≡ (if bytes_eq name q then Some entry else entry_at old q)
