-- Bytes as frames, which are unformatted records of sequential access (ISO/IEC 1539-1:2004, 9.1.2). A frame is the
-- length of the body as four bytes, the least first, the body, and its length again.
use Rattle.std.specs.Prelude.{◌≡◌, ℕ, ◌+◌, ◌-◌, ◌<◌, ◌^◌, List, ◌++◌, length, take, drop, Option, None, Some, if◌then◌else◌, nat_lt, ◌&&◌}
use Rattle.std.specs.Int.{w32, to_le_bytes, from_le_bytes}
use Rattle.std.specs.Str.{bytes_eq}

-- a body as it stands in a file
abbrev pub framed : List ℕ → List ℕ
framed body = to_le_bytes w32 (length body) ++ body ++ to_le_bytes w32 (length body)

-- bytes are the frame of this body and what stands behind it
pub record BeginsWithFrame (bytes body rest : List ℕ) : Type 0 where
  pub short : length body < 2 ^ 32
  pub joined : bytes ≡ framed body ++ rest

-- bytes are what stands before a frame and the frame of this body
pub record EndsWithFrame (bytes front body : List ℕ) : Type 0 where
  pub short : length body < 2 ^ 32
  pub joined : bytes ≡ front ++ framed body

-- the body of the frame that bytes begin with, and the rest
abbrev pub frame : List ℕ → Option (List ℕ × List ℕ)
frame bytes =
    let width = from_le_bytes w32 (take 4 bytes) in
    let body = take width (drop 4 bytes) in
    let rest = drop (width + 8) bytes in
    if nat_lt (length body) (2 ^ 32) && bytes_eq bytes (framed body ++ rest) then Some (body, rest) else None

-- what stands before the frame that bytes end with, and its body
abbrev pub frame_before : List ℕ → Option (List ℕ × List ℕ)
frame_before bytes =
    let width = from_le_bytes w32 (drop (length bytes - 4) bytes) in
    let front = take (length bytes - (width + 8)) bytes in
    let body = take width (drop (length bytes - (width + 4)) bytes) in
    if nat_lt (length body) (2 ^ 32) && bytes_eq bytes (front ++ framed body) then Some (front, body) else None
