-- What a read of a formatted record answers.
use Rattle.std.specs.Prelude.{◌≡◌, ℕ, ◌==◌, ◌+◌, ◌-◌, ◌<◌, ◌≤◌, List, [], length, drop, nat_le, if◌then◌else◌}
use Rattle.fj_seqrec.specs.declared.read.RecordRead.{RecordRead}
use Rattle.fj_seqrec.specs.declared.read.RecordRead.TheVariants.{Line, End, TooLong}
use Rattle.fj_seqrec.specs.Lines.{first_line, behind_line}

-- the answer at a place of these bytes, for a record of at most so many characters
abbrev pub record_at : List ℕ → ℕ → ℕ → RecordRead
record_at bytes at limit =
    let rest = drop at bytes in
    if length rest == 0 then End
    else (if nat_le (length (first_line rest)) limit then Line (length bytes - length (behind_line rest)) else TooLong)

-- what a text holds after that answer: the record's characters where there is one
abbrev pub HoldsRecord : List ℕ → ℕ → RecordRead → List ℕ → Type 0
HoldsRecord bytes at (Line next) text = text ≡ first_line (drop at bytes)
HoldsRecord bytes at End text = text ≡ []
HoldsRecord bytes at TooLong text = text ≡ []

-- what the answer says of a file of this size, whether it tells its bytes or not
abbrev pub IsWithin : ℕ → ℕ → ℕ → RecordRead → List ℕ → Type 0
IsWithin size at limit (Line next) text = (at < next) × (next ≤ size) × (length text ≤ limit) × (at + length text ≤ next)
IsWithin size at limit End text = (at ≡ size) × (text ≡ [])
IsWithin size at limit TooLong text = (at + limit < size) × (text ≡ [])
