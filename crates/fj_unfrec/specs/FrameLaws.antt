-- What holds of all bytes and their frames.
use Rattle.std.specs.Prelude.{◌≡◌, ◌↔◌, ℕ, List, Some}
use Rattle.fj_unfrec.specs.Frames.{BeginsWithFrame, EndsWithFrame, frame, frame_before}

-- the frame that bytes begin or end with is found exactly where there is one, and is the only one
abbrev pub AreFound : Type 0
AreFound = ((bytes body rest : List ℕ) → (frame bytes ≡ Some (body, rest)) ↔ BeginsWithFrame bytes body rest)
    × ((bytes front body : List ℕ) → (frame_before bytes ≡ Some (front, body)) ↔ EndsWithFrame bytes front body)
