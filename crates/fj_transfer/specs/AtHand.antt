-- The records that a formatted input reads, one after another (ISO/IEC 1539-1:2004, 9.1, 9.2, 9.5.3).
use Rattle.std.specs.Prelude.{ℕ, ◌+◌, ◌==◌, nat_lt, List, length, Option, Some, None, if◌then◌else◌, Result, Ok, Err}
use Rattle.fj_value.specs.declared.condition.Condition.{Condition}
use Rattle.fj_value.specs.declared.condition.Condition.TheVariants.{EndOfFile, Error}
use Rattle.fj_modes.specs.declared.specifiers.Access.TheVariants.{Direct}
use Rattle.fj_modes.specs.Words.{same_access}
use Rattle.fj_byterec.specs.Pieces.{piece}
use Rattle.fj_connect.specs.Connection.{Connection, bytes_behind, rest_of_record, begun, in_record, past_record, at_number}
use Rattle.fj_connect.specs.Spot.{is_reading}

-- the record at hand: its characters from the left tab limit on, and the connection there
pub record AtHand : Type 0 where
  pub connection : Connection
  pub text : List ℕ

-- the connection behind the record at hand; behind a direct record it stands already
abbrev pub behind : AtHand → Connection
behind hand = if same_access hand.connection.modes.access Direct then hand.connection else past_record hand.connection

-- a record that begins at the position: it is there unless the file ends, and is not longer than the limit
abbrev pub line_at : Connection → Result AtHand Condition
line_at c =
    if length (bytes_behind c) == 0 then Err EndOfFile
    else (if nat_lt c.modes.recl (length (rest_of_record c)) then Err (Error 15)
    else Ok (record { connection = in_record c c.spot.at 0; text = rest_of_record c }))

-- the direct record of a number, if there is one
abbrev pub numbered : Connection → ℕ → Option (List ℕ) → Result AtHand Condition
numbered c number None = Err (Error 17)
numbered c number (Some text) = Ok (record { connection = at_number c number; text = text })

abbrev pub record_numbered : Connection → ℕ → Result AtHand Condition
record_numbered c number = numbered c number (piece c.bytes c.modes.recl number)

abbrev pub next_record : Connection → Result AtHand Condition
next_record c = if same_access c.modes.access Direct then record_numbered c c.spot.next_number else line_at c

-- the rest of the record at hand, which is not longer than the limit with what was read of it
abbrev pub rest_at : Connection → Result AtHand Condition
rest_at c = if nat_lt c.modes.recl (begun c + length (rest_of_record c)) then Err (Error 15)
    else Ok (record { connection = c; text = rest_of_record c })

-- the record that a statement begins in: the direct record that is due; else the one at hand, of which some characters were read,
-- or the next one
abbrev pub first_record : Connection → Result AtHand Condition
first_record c = if same_access c.modes.access Direct then record_numbered c c.spot.next_number else (if is_reading c.spot.within then rest_at c else line_at c)
