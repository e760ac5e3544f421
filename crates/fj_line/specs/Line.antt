-- A line that is written character by character (ISO/IEC 1539-1:2004, 10.7.1). Positions count from 0 at the left tab limit.
use Rattle.std.specs.Prelude.{ℕ, ◌+◌, ◌-◌, ◌≡◌, ◌≢◌, ◌≤◌, ◌<◌, if◌then◌else◌, nat_le, nat_lt, ◌&&◌, min, List, [], ◌∷◌, ◌++◌, length, take, drop, replicate, slice_index, Option, Some, None, IsSome, unwrap_or}
use Rattle.fj_line.specs.declared.moves.Move.{Move}
use Rattle.fj_line.specs.declared.moves.Move.TheVariants.{To, Back, Ahead}

abbrev pub blank : ℕ
blank = 32

-- the farthest position, where moves end
abbrev pub farthest : ℕ
farthest = 4611686018427387904

-- the most bytes that a statement writes, and so the most characters of a line
abbrev pub most_bytes : ℕ
most_bytes = 16777216

-- ---- the line as a map

-- the character at each position, if one was written there
abbrev pub Characters : Type 0
Characters = ℕ → Option ℕ

abbrev pub no_characters : Characters
no_characters p = None

-- with these characters from a position on, in place of what stood there
abbrev pub overwritten : Characters → ℕ → List ℕ → Characters
overwritten old at chars p = if nat_le at p && nat_lt p (at + length chars) then Some (slice_index chars (p - at)) else old p

-- The text of a map: its characters from position 0 to the greatest position that is in it, with a blank at each
-- position that is not.
pub record IsTextOf (chars : Characters) (text : List ℕ) : Type 0 where
  pub within : (p : ℕ) → p < length text → slice_index text p ≡ unwrap_or (chars p) blank
  pub greatest : text ≢ [] → IsSome (chars (length text - 1))
  pub behind : (p : ℕ) → length text ≤ p → chars p ≡ None

-- ---- moves of the position (10.7.1.1, 10.7.1.2)

-- to the n-th character; back, and not before the limit; ahead, and not past the farthest position
abbrev pub position_behind : Move → ℕ → ℕ
position_behind (To n) at = n - 1
position_behind (Back n) at = at - n
position_behind (Ahead n) at = min (at + n) farthest

-- ---- the line as a text and a position, which is what contracts see

pub record LineState : Type 0 where
  pub at : ℕ
  pub text : List ℕ

abbrev pub empty_line : LineState
empty_line = record { at = 0; text = [] }

-- A text with characters written from a position on. The positions that are passed become blank. No characters write
-- nothing.
abbrev pub with_chars : List ℕ → ℕ → List ℕ → List ℕ
with_chars text at [] = text
with_chars text at (c ∷ cs) = take at text ++ (replicate (at - length text) blank ++ ((c ∷ cs) ++ drop (at + length (c ∷ cs)) text))

-- characters at the position, which moves behind them
abbrev pub written : List ℕ → LineState → LineState
written chars line = record { at = line.at + length chars; text = with_chars line.text line.at chars }

-- another position; a move writes nothing
abbrev pub moved : Move → LineState → LineState
moved how line = record { at = position_behind how line.at; text = line.text }

-- The text of a line is that of the map: at its beginning, and wherever characters are written; and a map has one text.
pub record TextsAreOfMaps : Type 0 where
  pub empty : IsTextOf no_characters []
  pub written : (map : Characters) (text : List ℕ) (at : ℕ) (chars : List ℕ) → IsTextOf map text → IsTextOf (overwritten map at chars) (with_chars text at chars)
  pub only : (map : Characters) (text other : List ℕ) → IsTextOf map text → IsTextOf map other → text ≡ other
