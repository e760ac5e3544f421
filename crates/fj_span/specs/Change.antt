-- What a file becomes where a run of bytes is put into it, and what it keeps where that is stopped.
use Rattle.std.specs.Prelude.{◌≡◌, ℕ, ◌≤◌, List, ◌++◌, length, take, drop, Bool, if◌then◌else◌}
use Rattle.fj_outside.specs.Bytes.{written}

-- old with this piece at this place; where it is to be shortened, the piece is its end
abbrev pub with_piece : List ℕ → ℕ → List ℕ → Bool → List ℕ
with_piece old at piece shorten = if shorten then take at old ++ piece else written old at piece

-- A file that was to become due and was stopped: as far as due agrees with old from the start on, new does too.
-- So below the first byte that was to change all is as before, and where none was to change the whole file is.
abbrev pub KeepsUpToChange : List ℕ → List ℕ → List ℕ → Type 0
KeepsUpToChange old due new = (n : ℕ) → take n due ≡ take n old → take n new ≡ take n old

-- A file on its way from old to due: due up to a place, and old from there on.
pub record IsChanged (old due : List ℕ) (place : ℕ) (now : List ℕ) : Type 0 where
  pub front : take place now ≡ take place due
  pub rest : drop place now ≡ drop place old
  pub within : place ≤ length now
