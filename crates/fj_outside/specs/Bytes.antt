-- What the calls of a file do to its bytes.
use Rattle.std.specs.Prelude.{◌≡◌, ℕ, ◌+◌, ◌≤◌, List, ◌++◌, length, take, drop, max}

-- old with this piece at this place
abbrev pub written : List ℕ → ℕ → List ℕ → List ℕ
written old at piece = take at old ++ piece ++ drop (at + length piece) old

-- old with a prefix of this piece at this place, and all other bytes as before
abbrev pub IsPartlyWritten : List ℕ → ℕ → List ℕ → List ℕ → Type 0
IsPartlyWritten old at piece new = (n : ℕ) × (n ≤ length piece) × (new ≡ written old at (take n piece))

-- a write, by place: before its place and behind the piece all is as before, the piece stands between, and the file grew
-- where the piece goes over its end
abbrev pub WrittenByPlace : Type 0
WrittenByPlace = (old : List ℕ) (at : ℕ) (piece : List ℕ) → at ≤ length old →
    (take at (written old at piece) ≡ take at old)
    × (take (length piece) (drop at (written old at piece)) ≡ piece)
    × (drop (at + length piece) (written old at piece) ≡ drop (at + length piece) old)
    × (length (written old at piece) ≡ max (length old) (at + length piece))
