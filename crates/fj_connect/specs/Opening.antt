-- OPEN of a unit that is not connected, and CLOSE (ISO/IEC 1539-1:2004, 9.4.5, 9.4.6).
use Rattle.std.specs.Prelude.{ℕ, Bool, false, List, [], length, nat_lt, Option, Some, None, Result, Ok, Err, unwrap_or, if◌then◌else◌}
use Rattle.std.specs.FinMap as map
use Rattle.fj_value.specs.declared.condition.Condition.{Condition}
use Rattle.fj_value.specs.declared.condition.Condition.TheVariants.{Error}
use Rattle.fj_modes.specs.declared.modes.Modes.{Modes}
use Rattle.fj_modes.specs.declared.specifiers.OpenSpec.{OpenSpec}
use Rattle.fj_modes.specs.declared.specifiers.FileStatus.{FileStatus}
use Rattle.fj_modes.specs.declared.specifiers.FileStatus.TheVariants.{Old, New, Scratch, Replace, Unknown}
use Rattle.fj_modes.specs.declared.specifiers.Start.{Start}
use Rattle.fj_modes.specs.declared.specifiers.Start.TheVariants.{AsIs, Rewind, Append}
use Rattle.fj_outside.specs.Holdings.{Files}
use Rattle.fj_connect.specs.Connection.{Connection}
use Rattle.fj_modes.specs.Limits.{longest_file}
use Rattle.fj_connect.specs.declared.spot.Spot.{Spot}
use Rattle.fj_connect.specs.declared.spot.Within.TheVariants.{Outside}

-- the bytes of a file that is there; one that is too long is error 27 (own)
abbrev pub kept_bytes : List ℕ → Result (List ℕ) Condition
kept_bytes bytes = if nat_lt longest_file (length bytes) then Err (Error 27) else Ok bytes

-- the bytes that OPEN connects to, by STATUS= and by the file that stands under the name, if one does: an old file has to be
-- there (else error 5), a new one may not be (else error 6), scratch and replaced files are made empty. UNKNOWN is OLD where
-- the file is there, else NEW (own)
abbrev pub bytes_opened : FileStatus → Option (List ℕ) → Result (List ℕ) Condition
bytes_opened Old None = Err (Error 5)
bytes_opened Old (Some bytes) = kept_bytes bytes
bytes_opened New None = Ok []
bytes_opened New (Some bytes) = Err (Error 6)
bytes_opened Scratch _ = Ok []
bytes_opened Replace _ = Ok []
bytes_opened Unknown None = Ok []
bytes_opened Unknown (Some bytes) = kept_bytes bytes

-- where POSITION= puts a new connection to a file of this length: at the initial point, or behind the last byte and before the endfile record; ASIS is
-- the initial point (own)
abbrev pub first_place : Start → ℕ → ℕ
first_place AsIs size = 0
first_place Rewind size = 0
first_place Append size = size

abbrev pub first_spot : ℕ → Spot
first_spot place = record { at = place; start = place; within = Outside; after_end = false; next_number = 1 }

-- a new connection to a file of these bytes
abbrev pub connected : Modes → List ℕ → List ℕ → Connection
connected modes name bytes = record { modes = modes; name = name; bytes = bytes; spot = first_spot (first_place modes.start (length bytes)) }

-- the connection, or the error
abbrev pub connected_to : Modes → List ℕ → Result (List ℕ) Condition → Result Connection Condition
connected_to modes name (Ok bytes) = Ok (connected modes name bytes)
connected_to modes name (Err condition) = Err condition

-- the same by the file that stands under the name
abbrev pub opened_file : Option (List ℕ) → List ℕ → OpenSpec → Modes → Result Connection Condition
opened_file found name spec modes = connected_to modes name (bytes_opened (unwrap_or spec.status Unknown) found)

-- a connection takes its file from the others
abbrev pub with_left : Files → Result Connection Condition → Result (Connection × Files) Condition
with_left files (Ok c) = Ok (c, map.remove files c.name)
with_left files (Err condition) = Err condition

-- OPEN of a name by a statement and the modes that it settles: the connection and the files that are left, or error 5, 6 or 27
abbrev pub opened : Files → List ℕ → OpenSpec → Modes → Result (Connection × Files) Condition
opened files name spec modes = with_left files (opened_file (map.get files name) name spec modes)

-- CLOSE: the file is among the others again, or is gone
abbrev pub closed : Connection → Bool → Files → Files
closed c keep files = if keep then map.insert files c.name c.bytes else map.remove files c.name
