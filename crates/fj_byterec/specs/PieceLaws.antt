-- What holds of the records of bytes.
use Rattle.std.specs.Prelude.{◌≡◌, ◌≢◌, ℕ, ◌<◌, ◌≤◌, List, length, drop, None, Some}
use Rattle.fj_byterec.specs.Pieces.{record_start, piece, filled_to, with_record}

-- a record that was written is there, and every other one that was there is as before
abbrev pub StandApart : Type 0
StandApart = (bytes text : List ℕ) (size number fill : ℕ) → 0 < number → length text ≤ size
    → (piece (with_record bytes size number text fill) size number ≡ Some (filled_to text size fill))
    × ((other : ℕ) (found : List ℕ) → 0 < other → other ≢ number → piece bytes size other ≡ Some found → piece (with_record bytes size number text fill) size other ≡ Some found)

-- the records of the gap before a record that was written behind the end are there, each with what bytes there were of it,
-- filled up
abbrev pub GapsAreFilled : Type 0
GapsAreFilled = (bytes text : List ℕ) (size number fill : ℕ) → length text ≤ size → (other : ℕ) → 0 < other → other < number → piece bytes size other ≡ None
    → piece (with_record bytes size number text fill) size other ≡ Some (filled_to (drop (record_start size other) bytes) size fill)
