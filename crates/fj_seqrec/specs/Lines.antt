-- Bytes as lines, which are formatted records (ISO/IEC 1539-1:2004, 9.1.1). A line ends with a line feed, or with a
-- carriage return and a line feed; the last one may end with the bytes.
use Rattle.std.specs.Prelude.{ℕ, Bool, ◌==◌, ◌-◌, List, length, take, if◌then◌else◌}
use Rattle.std.specs.List.{position_or_len, before_first, after_first, after_last}
use Rattle.std.specs.Str.Lines as text

abbrev pub is_line_feed : ℕ → Bool
is_line_feed byte = byte == 10

-- the bytes cut at each line feed, less a carriage return directly before it; a last part that is not empty is a line
abbrev pub lines : List ℕ → List (List ℕ)
lines bytes = text.lines bytes

-- the first of the lines
abbrev pub first_line : List ℕ → List ℕ
first_line bytes =
    if position_or_len is_line_feed bytes == length bytes then bytes else text.strip_carriage_return (before_first is_line_feed bytes)

-- what stands behind the first line and its end
abbrev pub behind_line : List ℕ → List ℕ
behind_line bytes = after_first is_line_feed bytes

-- where the last line begins: behind the last line feed that is not the last byte
abbrev pub last_line_start : List ℕ → ℕ
last_line_start bytes =
    let front = take (length bytes - 1) bytes in
    length front - length (after_last is_line_feed front)
