-- Worked cases of lines and of the answers of a read.
use Rattle.std.proofs.Common.{◌≡◌, [], ◌∷◌, refl}
use Rattle.fj_seqrec.specs.declared.read.RecordRead.TheVariants.{Line, End, TooLong}
use Rattle.fj_seqrec.specs.Lines.{lines, behind_line, last_line_start}
use Rattle.fj_seqrec.specs.Reading.{record_at}

-- a, CR, LF, b
ended_and_open : lines (97 ∷ 13 ∷ 10 ∷ 98 ∷ []) ≡ (97 ∷ []) ∷ (98 ∷ []) ∷ []
ended_and_open = refl

empty_lines : lines (10 ∷ 13 ∷ 10 ∷ []) ≡ [] ∷ [] ∷ []
empty_lines = refl

-- only one carriage return is dropped, and only before a line feed
returns_kept : lines (97 ∷ 13 ∷ 13 ∷ 10 ∷ 13 ∷ 98 ∷ 13 ∷ []) ≡ (97 ∷ 13 ∷ []) ∷ (13 ∷ 98 ∷ 13 ∷ []) ∷ []
returns_kept = refl

no_lines : lines [] ≡ []
no_lines = refl

first_and_behind : behind_line (97 ∷ 10 ∷ 98 ∷ 10 ∷ []) ≡ 98 ∷ 10 ∷ []
first_and_behind = refl

read_at_the_limit : record_at (97 ∷ 98 ∷ 13 ∷ 10 ∷ 99 ∷ []) 0 2 ≡ Line 4
read_at_the_limit = refl

read_above_the_limit : record_at (97 ∷ 98 ∷ 13 ∷ 10 ∷ 99 ∷ []) 0 1 ≡ TooLong
read_above_the_limit = refl

read_the_open_line : record_at (97 ∷ 10 ∷ 99 ∷ []) 2 1 ≡ Line 3
read_the_open_line = refl

read_at_the_end : record_at (97 ∷ 10 ∷ []) 2 1 ≡ End
read_at_the_end = refl

last_of_two : last_line_start (97 ∷ 10 ∷ 98 ∷ 10 ∷ []) ≡ 2
last_of_two = refl

last_is_open : last_line_start (97 ∷ 10 ∷ 98 ∷ []) ≡ 2
last_is_open = refl

last_is_first : last_line_start (97 ∷ 10 ∷ []) ≡ 0
last_is_first = refl
