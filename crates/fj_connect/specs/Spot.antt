-- Where a connection stands in its file (ISO/IEC 1539-1:2004, 9.2.3).
use Rattle.std.specs.Prelude.{◌≡◌, ◌≢◌, ℕ, ◌+◌, ◌-◌, ◌<◌, ◌≤◌, Bool, true, false, if◌then◌else◌}
use Rattle.fj_modes.specs.declared.modes.Modes.{Modes}
use Rattle.fj_modes.specs.declared.specifiers.Access.TheVariants.{Sequential, Direct}
use Rattle.fj_modes.specs.Limits.{longest_file}
use Rattle.fj_modes.specs.Words.{same_access}
use Rattle.fj_connect.specs.declared.spot.Spot.{Spot}
use Rattle.fj_connect.specs.declared.spot.Within.{Within}
use Rattle.fj_connect.specs.declared.spot.Within.TheVariants.{Outside, Reading, Writing}

abbrev pub is_outside : Within → Bool
is_outside Outside = true
is_outside Reading = false
is_outside Writing = false

abbrev pub is_reading : Within → Bool
is_reading Outside = false
is_reading Reading = true
is_reading Writing = false

abbrev pub is_writing : Within → Bool
is_writing Outside = false
is_writing Reading = false
is_writing Writing = true

abbrev pub is_sequential : Modes → Bool
is_sequential modes = same_access modes.access Sequential

-- between records, at a place
abbrev pub spot_between : Spot → ℕ → Spot
spot_between spot place = record { at = place; start = place; within = Outside; after_end = false; next_number = spot.next_number }

-- inside a record of input that begins at a place, so many characters behind its start
abbrev pub spot_in_record : Spot → ℕ → ℕ → Spot
spot_in_record spot start count =
    record { at = start + count; start = start; within = Reading; after_end = false; next_number = spot.next_number }

-- at the end of the file, behind a record of so many characters that output left open
abbrev pub spot_writing : Spot → ℕ → ℕ → Spot
spot_writing spot size count =
    record { at = size; start = size - count; within = Writing; after_end = false; next_number = spot.next_number }

-- an open record has its line feed
abbrev pub spot_ended : Spot → Spot
spot_ended spot = if is_writing spot.within then spot_between spot (spot.at + 1) else spot

-- the length of a file of this size once its open record has its line feed
abbrev pub size_ended : Spot → ℕ → ℕ
size_ended spot size = if is_writing spot.within then size + 1 else size

-- at the end of the file; in sequential access behind the endfile record
abbrev pub spot_past_end : Modes → Spot → ℕ → Spot
spot_past_end modes spot size = record (spot_between spot size) { after_end = is_sequential modes }

-- What holds of where each connection stands, in a file of this size. Only formatted output leaves a record open, never of
-- direct access, at the end of the file, and its line feed fits; only sequential access has an endfile record.
pub record IsPlaced (modes : Modes) (size : ℕ) (spot : Spot) : Type 0 where
  pub short : size ≤ longest_file
  pub in_file : spot.at ≤ size
  pub from_start : spot.start ≤ spot.at
  pub between_records : spot.within ≡ Outside → spot.start ≡ spot.at
  pub record_open : spot.within ≡ Writing → (modes.formatted ≡ true) × (modes.access ≢ Direct) × (spot.at ≡ size) × (size < longest_file)
  pub at_end : spot.after_end ≡ true → (modes.access ≡ Sequential) × (spot.at ≡ size) × (spot.within ≡ Outside)
  pub number : 0 < spot.next_number
