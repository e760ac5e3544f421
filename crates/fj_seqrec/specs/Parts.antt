-- A part of a line, taken out of the bytes from a place on.
use Rattle.std.specs.Prelude.{◌≡◌, ℕ, ◌+◌, ◌<◌, ◌≤◌, List, ◌++◌, length, take}
use Rattle.std.specs.List.{position_or_len}
use Rattle.fj_seqrec.specs.declared.read.LinePart.{LinePart}
use Rattle.fj_seqrec.specs.declared.read.LinePart.TheVariants.{Ended, Open}
use Rattle.fj_seqrec.specs.Lines.{is_line_feed}

-- a text got the front of these bytes: up to the first line feed, or so many in which none stands
abbrev pub IsPartOf : List ℕ → List ℕ → LinePart → List ℕ → Type 0
IsPartOf rest old (Ended width) new = (width < length rest) × (width ≡ position_or_len is_line_feed rest) × (new ≡ old ++ take width rest)
IsPartOf rest old (Open width) new = (width ≤ length rest) × (width ≡ position_or_len is_line_feed (take width rest)) × (new ≡ old ++ take width rest)

-- what that says where so many bytes are left, told or not
abbrev pub IsPartWithin : ℕ → List ℕ → LinePart → List ℕ → Type 0
IsPartWithin left old (Ended width) new = (width < left) × (length new ≡ length old + width)
IsPartWithin left old (Open width) new = (0 < width) × (width ≤ left) × (length new ≡ length old + width)
