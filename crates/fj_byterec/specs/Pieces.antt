-- Bytes as equal pieces, which are the records of direct access (ISO/IEC 1539-1:2004, 9.2.2.2).
use Rattle.std.specs.Prelude.{ℕ, ◌+◌, ◌-◌, ◌*◌, List, ◌++◌, length, take, drop, replicate, nat_le, Option, None, Some, if◌then◌else◌}
use Rattle.fj_outside.specs.Bytes.{written}

-- where the record of a number begins
abbrev pub record_start : ℕ → ℕ → ℕ
record_start size number = (number - 1) * size

-- the record of a number, counted from 1, of this size; it is there where the bytes reach its end
abbrev pub piece : List ℕ → ℕ → ℕ → Option (List ℕ)
piece bytes size number = if nat_le (number * size) (length bytes) then Some (take size (drop (record_start size number) bytes)) else None

-- bytes lengthened by copies of one byte up to this length, where they are shorter
abbrev pub filled_to : List ℕ → ℕ → ℕ → List ℕ
filled_to bytes long fill = bytes ++ replicate (long - length bytes) fill

-- bytes with this record, filled up to its size; the gap before it is filled where they end before it
abbrev pub with_record : List ℕ → ℕ → ℕ → List ℕ → ℕ → List ℕ
with_record bytes size number text fill = written (filled_to bytes (record_start size number) fill) (record_start size number) (filled_to text size fill)

-- so many bytes from a place on; they are there where the bytes reach so far
abbrev pub bytes_from : List ℕ → ℕ → ℕ → Option (List ℕ)
bytes_from bytes at want = if nat_le (at + want) (length bytes) then Some (take want (drop at bytes)) else None
