-- A connection of a unit to a file (ISO/IEC 1539-1:2004, 9.4), and the position in the file (9.2.3).
use Rattle.std.specs.Prelude.{ℕ, ◌+◌, ◌-◌, ◌==◌, ◌&&◌, List, [], ◌∷◌, ◌++◌, length, take, drop, slice_index, not, if◌then◌else◌}
use Rattle.fj_value.specs.declared.edit.EditModes.{EditModes}
use Rattle.fj_modes.specs.declared.modes.Modes.{Modes}
use Rattle.fj_outside.specs.Bytes.{written}
use Rattle.fj_seqrec.specs.Lines.{first_line, behind_line}
use Rattle.fj_unfrec.specs.Frames.{framed}
use Rattle.fj_byterec.specs.Pieces.{with_record}
use Rattle.fj_connect.specs.Spot.{is_outside, spot_between, spot_in_record, spot_writing, spot_past_end}
use Rattle.fj_connect.specs.declared.spot.Spot.{Spot}

pub record Connection : Type 0 where
  pub modes : Modes
  -- the name of the file
  pub name : List ℕ
  -- the bytes of the file
  pub bytes : List ℕ
  -- where it stands in them
  pub spot : Spot

-- 1. The bytes round the position.

abbrev pub bytes_before : Connection → List ℕ
bytes_before c = take c.spot.at c.bytes

abbrev pub bytes_behind : Connection → List ℕ
bytes_behind c = drop c.spot.at c.bytes

-- the characters from the position to the end of its formatted record
abbrev pub rest_of_record : Connection → List ℕ
rest_of_record c = first_line (bytes_behind c)

-- the place behind that record
abbrev pub record_end : Connection → ℕ
record_end c = length c.bytes - length (behind_line (bytes_behind c))

-- how many characters of the current record stand before the position
abbrev pub begun : Connection → ℕ
begun c = c.spot.at - c.spot.start

-- a formatted record that is to begin between records, behind a byte other than a line feed, has the line feed that the bytes
-- before it lack (own)
abbrev pub missing_feed : Connection → List ℕ
missing_feed c =
    if is_outside c.spot.within && not (c.spot.at == 0) && not (slice_index c.bytes (c.spot.at - 1) == 10) then 10 ∷ [] else []

-- 2. Another position, in the same bytes.

-- between records, at a place
abbrev pub between : Connection → ℕ → Connection
between c place = record c { spot = spot_between c.spot place }

-- inside a record of input that begins at a place, and so many characters behind its start
abbrev pub in_record : Connection → ℕ → ℕ → Connection
in_record c start count = record c { spot = spot_in_record c.spot start count }

-- behind the record that the position is in
abbrev pub past_record : Connection → Connection
past_record c = between c (record_end c)

-- input met the end of the file: in sequential access the position is behind the endfile record
abbrev pub past_end : Connection → Connection
past_end c = record c { spot = spot_past_end c.modes c.spot (length c.bytes) }

-- the record of this number was read or written
abbrev pub at_number : Connection → ℕ → Connection
at_number c number = record c { spot = record c.spot { next_number = number + 1 } }

-- 3. Other bytes.

-- a text at the position, as the last of the file; its last record is ended
abbrev pub with_records : Connection → List ℕ → Connection
with_records c text = between (record c { bytes = bytes_before c ++ text }) (c.spot.at + length text)

-- a text at the position, as the last of the file; a record of so many characters stays open at its end
abbrev pub with_open_record : Connection → List ℕ → ℕ → Connection
with_open_record c text count =
    record c { bytes = bytes_before c ++ text; spot = spot_writing c.spot (c.spot.at + length text) count }

-- an unformatted record at the position, as the last of the file
abbrev pub with_frame : Connection → List ℕ → Connection
with_frame c body = with_records c (framed body)

-- a direct record; one that is too short is filled up, and so is the gap before it
abbrev pub with_direct : Connection → ℕ → List ℕ → ℕ → Connection
with_direct c number text fill = at_number (record c { bytes = with_record c.bytes c.modes.recl number text fill }) number

-- bytes at the position, over those that stand there
abbrev pub with_bytes : Connection → List ℕ → Connection
with_bytes c piece = between (record c { bytes = written c.bytes c.spot.at piece }) (c.spot.at + length piece)

-- 4. Other modes.

abbrev pub with_edit : Connection → EditModes → Connection
with_edit c edit = record c { modes = record c.modes { edit = edit } }
