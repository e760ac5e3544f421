-- What reads of frames answer.
use Rattle.std.specs.Prelude.{◌≡◌, ℕ, ◌==◌, ◌+◌, ◌-◌, ◌<◌, ◌≤◌, List, [], length, drop, nat_le, Option, None, Some, IfSome, if◌then◌else◌}
use Rattle.fj_unfrec.specs.declared.read.FrameRead.{FrameRead}
use Rattle.fj_unfrec.specs.declared.read.FrameRead.TheVariants.{Frame, End, Broken, TooLong}
use Rattle.fj_unfrec.specs.Frames.{frame, frame_before}

-- the answer where bytes of this length begin with that frame, or with none, for a body of at most so many bytes
abbrev pub answer_to : ℕ → ℕ → Option (List ℕ × List ℕ) → FrameRead
answer_to size limit None = Broken
answer_to size limit (Some (body, rest)) = if nat_le (length body) limit then Frame (size - length rest) else TooLong

-- the answer at a place of these bytes
abbrev pub frame_at : List ℕ → ℕ → ℕ → FrameRead
frame_at bytes at limit = if length (drop at bytes) == 0 then End else answer_to (length bytes) limit (frame (drop at bytes))

-- what a text holds after that answer: the frame's body where there is one
abbrev pub HoldsFrame : List ℕ → ℕ → FrameRead → List ℕ → Type 0
HoldsFrame bytes at (Frame next) text = IfSome (frame (drop at bytes)) (λ found. text ≡ found.0)
HoldsFrame bytes at End text = text ≡ []
HoldsFrame bytes at Broken text = text ≡ []
HoldsFrame bytes at TooLong text = text ≡ []

-- what the answer says of a file of this size, whether it tells its bytes or not
abbrev pub IsWithin : ℕ → ℕ → ℕ → FrameRead → List ℕ → Type 0
IsWithin size at limit (Frame next) text = (next ≡ at + 8 + length text) × (next ≤ size) × (length text ≤ limit)
IsWithin size at limit End text = (at ≡ size) × (text ≡ [])
IsWithin size at limit Broken text = (at < size) × (text ≡ [])
IsWithin size at limit TooLong text = (at + 8 + limit < size) × (text ≡ [])

-- how many bytes stand before that frame
abbrev pub start_of : Option (List ℕ × List ℕ) → Option ℕ
start_of None = None
start_of (Some (front, body)) = Some (length front)

-- where the frame begins that ends these bytes; 0 where there are none
abbrev pub frame_start : List ℕ → Option ℕ
frame_start bytes = if length bytes == 0 then Some 0 else start_of (frame_before bytes)
