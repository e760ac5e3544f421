-- What holds of all bytes and their lines.
use Rattle.std.specs.Prelude.{◌≡◌, ◌≢◌, ℕ, ◌+◌, ◌-◌, ◌<◌, ◌≤◌, List, [], ◌∷◌, ◌++◌, length, take, drop, slice_index, All}
use Rattle.std.specs.List.{flat_map}
use Rattle.fj_seqrec.specs.Lines.{lines, first_line, behind_line, last_line_start}

-- Lines stand in bytes one behind the other, each with its end; only the last may have none. A carriage return directly
-- before a line feed is of the end.
pub data AreLinesOf : List (List ℕ) → List ℕ → Type 0 where
  none : AreLinesOf [] []
  open_line : {line : List ℕ} → All (λ byte. byte ≢ 10) line → 0 < length line → AreLinesOf (line ∷ []) line
  fed_line : {line rest : List ℕ} {more : List (List ℕ)} → All (λ byte. byte ≢ 10) line → slice_index line (length line - 1) ≢ 13 → AreLinesOf more rest
      → AreLinesOf (line ∷ more) (line ++ 10 ∷ rest)
  returned_line : {line rest : List ℕ} {more : List (List ℕ)} → All (λ byte. byte ≢ 10) line → AreLinesOf more rest
      → AreLinesOf (line ∷ more) (line ++ 13 ∷ 10 ∷ rest)

-- all bytes are lines put together, in one way
abbrev pub PutTogether : Type 0
PutTogether = ((bytes : List ℕ) → AreLinesOf (lines bytes) bytes)
    × ((parts : List (List ℕ)) (bytes : List ℕ) → AreLinesOf parts bytes → parts ≡ lines bytes)

-- bytes that are not empty have a first line, and the other lines are those of what stands behind it
abbrev pub BeginWithTheFirst : Type 0
BeginWithTheFirst = (lines [] ≡ []) × ((bytes : List ℕ) → 0 < length bytes → lines bytes ≡ first_line bytes ∷ lines (behind_line bytes))

-- a line begins at this place, and behind it a line feed is at most the last byte
pub record IsLastLineStart (bytes : List ℕ) (start : ℕ) : Type 0 where
  pub within : start < length bytes
  pub begins : 0 < start → slice_index bytes (start - 1) ≡ 10
  pub clear : (k : ℕ) → start ≤ k → k + 1 < length bytes → slice_index bytes k ≢ 10

-- bytes that are not empty have a last line, which begins at one place; the lines before it are the other lines
abbrev pub EndWithTheLast : Type 0
EndWithTheLast = (bytes : List ℕ) → 0 < length bytes
    → IsLastLineStart bytes (last_line_start bytes)
    × ((start : ℕ) → IsLastLineStart bytes start → start ≡ last_line_start bytes)
    × (lines bytes ≡ lines (take (last_line_start bytes) bytes) ++ first_line (drop (last_line_start bytes) bytes) ∷ [])

-- a record that can be written as a line: it holds no line feed and does not end in a carriage return
abbrev pub IsPlain : List ℕ → Type 0
IsPlain line = All (λ byte. byte ≢ 10) line × (slice_index line (length line - 1) ≢ 13)

-- records behind bytes that are empty or end with a line feed, each with its line feed, are the lines behind those of the
-- bytes; so the lines of the text of records are the records
abbrev pub AreTheLinesBehind : Type 0
AreTheLinesBehind = (bytes : List ℕ) (records : List (List ℕ)) → (0 < length bytes → slice_index bytes (length bytes - 1) ≡ 10) → All IsPlain records
    → lines (bytes ++ flat_map (λ line. line ++ 10 ∷ []) records) ≡ lines bytes ++ records
