-- What a file that was stopped on its way keeps, byte by byte.
use Rattle.std.specs.Prelude.{◌≡◌, ℕ, ◌+◌, ◌<◌, ◌≤◌, List, length, take, drop, true, slice_index}
use Rattle.fj_outside.specs.Bytes.{written}
use Rattle.fj_span.specs.Change.{with_piece, KeepsUpToChange, IsChanged}

-- it keeps all bytes before the first that was to change, and where none was to change it keeps the whole
abbrev pub KeepsWhatWasToStay : Type 0
KeepsWhatWasToStay = (old due new : List ℕ) → KeepsUpToChange old due new
    → ((count : ℕ) → count ≤ length old → count ≤ length due → ((k : ℕ) → k < count → slice_index due k ≡ slice_index old k)
    → (count ≤ length new) × ((k : ℕ) → k < count → slice_index new k ≡ slice_index old k))
    × (due ≡ old → new ≡ old)

-- the writes of one statement, one behind the other, through which a file becomes due: before the first it is old; each
-- whole one brings it on its way, and the last, behind which it is cut, to the end; where one is stopped, the file keeps
-- what the whole statement was to leave
abbrev pub WritesInTurnKeepWhatWasToStay : Type 0
WritesInTurnKeepWhatWasToStay = (old due : List ℕ) →
    ((place : ℕ) → place ≤ length old → take place due ≡ take place old → IsChanged old due place old)
    × ((place : ℕ) (now piece : List ℕ) → IsChanged old due place now → piece ≡ take (length piece) (drop place due)
    → IsChanged old due (place + length piece) (written now place piece)
    × ((new : List ℕ) → KeepsUpToChange now (written now place piece) new → KeepsUpToChange old due new))
    × ((place : ℕ) (now piece : List ℕ) → IsChanged old due place now → piece ≡ drop place due
    → (with_piece now place piece true ≡ due)
    × ((new : List ℕ) → KeepsUpToChange now (with_piece now place piece true) new → KeepsUpToChange old due new))
