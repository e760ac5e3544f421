-- A window of a file: bytes of it that are at hand, and where they stand.
use Rattle.std.specs.Prelude.{◌≡◌, ℕ, ◌-◌, ◌≤◌, List, [], ◌∷◌, length, take, drop, map, min, nat_le, nat_lt, Bool, ◌||◌, if◌then◌else◌}

pub record Window : Type 0 where
  -- the place of the first byte
  pub at : ℕ
  pub bytes : List ℕ

-- a window holds at most so many bytes
abbrev pub most_held : ℕ
most_held = 8192

-- a window of a file with these bytes
abbrev pub IsWindowOf : List ℕ → Window → Type 0
IsWindowOf bytes window = window.bytes ≡ take (length window.bytes) (drop window.at bytes)

-- what it holds from a place on
abbrev pub lent : Window → ℕ → List ℕ
lent window at = if nat_le window.at at then drop (at - window.at) window.bytes else []

-- as much as it holds of these bytes, from a place on
abbrev pub window_at : List ℕ → ℕ → Window
window_at bytes at = record { at = at; bytes = take most_held (drop at bytes) }

-- how many bytes a file of this size has where so many are asked for from a place on
abbrev pub due : ℕ → ℕ → ℕ → ℕ
due size at count = min count (size - at)

-- all of them stand in the window
abbrev pub serves : Window → ℕ → ℕ → ℕ → Bool
serves window size at count = nat_le (due size at count) (length (lent window at))

-- the window after a read of a file with these bytes: it stays where it served, and where more was asked for than it can hold
abbrev pub after_read : Window → List ℕ → ℕ → ℕ → Window
after_read window bytes at count =
    if serves window (length bytes) at count || nat_lt most_held (due (length bytes) at count) then window else window_at bytes at

-- the answer of that read: from the window, but from the file where more was asked for than the window can hold
abbrev pub answer_through : Window → List ℕ → ℕ → ℕ → List ℕ
answer_through window bytes at count =
    let then_held = after_read window bytes at count in
    if serves then_held (length bytes) at count then take (due (length bytes) at count) (lent then_held at) else take count (drop at bytes)

pub record Request : Type 0 where
  pub at : ℕ
  pub count : ℕ

-- the answers of a chain of reads through a window, one after the other
abbrev pub answers_through : Window → List ℕ → List Request → List (List ℕ)
answers_through window bytes [] = []
answers_through window bytes (asked ∷ more) =
    answer_through window bytes asked.at asked.count ∷ answers_through (after_read window bytes asked.at asked.count) bytes more

-- a chain of reads through a window of a file answers what it answers over the file
abbrev pub ReadsAnswerAsTheFile : Type 0
ReadsAnswerAsTheFile = (window : Window) (bytes : List ℕ) (requests : List Request) → IsWindowOf bytes window
    → answers_through window bytes requests ≡ map (λ asked. take asked.count (drop asked.at bytes)) requests
