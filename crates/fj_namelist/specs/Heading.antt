-- The group's name in namelist input (ISO/IEC 1539-1:2004, 10.10.1).
use Rattle.std.specs.Prelude.{◌≡◌, ◌≤◌, ℕ, Bool, true, ◌&&◌, ◌==◌, if◌then◌else◌, List, [], ◌∷◌, length, take, drop, Option, Some, None}
use Rattle.std.specs.List.{position_or_len}
use Rattle.fj_list.specs.Stream.{is_blank, is_no_blank}
use Rattle.fj_value.specs.declared.condition.Condition.{Condition}
use Rattle.fj_namelist.specs.declared.heading.Found.{Found}
use Rattle.fj_namelist.specs.declared.heading.Found.TheVariants as found
use Rattle.fj_namelist.specs.Names.{same_name}

-- what follows the name in its record, and the records behind that one; or another text was there; or there is none
pub data Heading : Type 0 where
  named : List ℕ → List (List ℕ) → Heading
  misnamed : List (List ℕ) → Heading
  missing : Heading

-- from the first character on that is no blank
abbrev pub text_in : List ℕ → List ℕ
text_in line = drop (position_or_len is_no_blank line) line

-- a record without text: blank, or a comment
abbrev pub is_passed : List ℕ → Bool
is_passed [] = true
is_passed (c ∷ cs) = c == 33

-- what stands behind an ampersand and the name, where a blank or the record's end follows
abbrev pub behind_name : List ℕ → List ℕ → Option (List ℕ)
behind_name group [] = None
behind_name group (c ∷ cs) = if (c == 38) && same_name (take (position_or_len is_blank cs) cs) group then Some (drop (position_or_len is_blank cs) cs) else None

abbrev pub heading_in : List (List ℕ) → Option (List ℕ) → Heading
heading_in lines None = misnamed lines
heading_in lines (Some rest) = named rest lines

-- the first record with text decides
abbrev pub heading : List ℕ → List (List ℕ) → Heading
heading group [] = missing
heading group (line ∷ lines) = if is_passed (text_in line) then heading group lines else heading_in lines (behind_name group (text_in line))

-- what was found in a record, or that the records have ended
abbrev pub Finds : Found → Heading → List ℕ → Condition → List (List ℕ) → Type 0
Finds (found.At at) wanted line ending left = wanted ≡ named (drop at line) left
Finds found.Misnamed wanted line ending left = wanted ≡ misnamed left
Finds (found.Missing condition) wanted line ending left = (wanted ≡ missing) × (condition ≡ ending) × (left ≡ [])

-- the place is one of the record
abbrev pub IsIn : Found → List ℕ → Type 0
IsIn (found.At at) line = at ≤ length line
IsIn _ line = Unit {0}
