-- List-directed output (ISO/IEC 1539-1:2004, 10.9.2): the records of a list of values.
use Rattle.std.specs.Prelude.{ℕ, ℤ, unsigned_abs, Bool, true, false, ◌&&◌, ◌==◌, nat_lt, if◌then◌else◌, List, [], ◌∷◌, ◌++◌, length, Option, Some, None, is_none}
use Rattle.std.specs.List.{flat_map}
use Rattle.std.specs.Fmt.{decimal}
use Rattle.fj_value.specs.Shown.{letter, sign}
use Rattle.fj_value.specs.declared.edit.Delim.{Delim}
use Rattle.fj_value.specs.declared.edit.Delim.TheVariants.{Plain, Apostrophe, Quote}
use Rattle.fj_value.specs.declared.edit.EditModes.{EditModes}
use Rattle.fj_value.specs.declared.value.Value.{Value}
use Rattle.fj_value.specs.declared.value.Value.TheVariants as value

-- the mark that DELIM= puts round characters
abbrev pub mark_of : Delim → Option ℕ
mark_of Plain = None
mark_of Apostrophe = Some 39
mark_of Quote = Some 34

-- a mark among the characters is doubled
abbrev pub doubled : ℕ → List ℕ → List ℕ
doubled mark cs = flat_map (λ c. if c == mark then c ∷ c ∷ [] else c ∷ []) cs

abbrev pub characters_shown : Option ℕ → List ℕ → List ℕ
characters_shown None cs = cs
characters_shown (Some mark) cs = mark ∷ [] ++ doubled mark cs ++ mark ∷ []

-- as I0, with a plus sign under SIGN='PLUS'
abbrev pub integer_shown : Bool → ℤ → List ℕ
integer_shown plus z = sign plus z ++ decimal (unsigned_abs z)

-- the text of a value; an undefined one has none
abbrev pub shown : EditModes → Value → List ℕ
shown modes (value.Int n) = integer_shown modes.plus n
shown modes (value.Log truth) = letter truth ∷ []
shown modes (value.Chars text) = characters_shown (mark_of modes.delim) text
shown modes value.Undefined = []

abbrev pub is_characters : Value → Bool
is_characters (value.Chars text) = true
is_characters _ = false

-- what stands before a value that is not the first in its record: one blank, but nothing between two character values
-- without marks
abbrev pub gap : EditModes → Bool → Bool → List ℕ
gap modes before after = if (before && after) && is_none (mark_of modes.delim) then [] else 32 ∷ []

-- A record has at most 80 columns, unless its one value is longer.
abbrev pub columns : ℕ
columns = 80

abbrev pub passes_columns : ℕ → Bool
passes_columns width = nat_lt columns width

-- The records of a record so far, which ends with a given value, and of more values. Where a value would pass the last
-- column it is the first of a new record.
abbrev pub continued : EditModes → List ℕ → Value → List Value → List (List ℕ)
continued modes line last [] = line ∷ []
continued modes line last (v ∷ vs) =
    let longer = line ++ (gap modes (is_characters last) (is_characters v) ++ shown modes v) in
    if passes_columns (length longer) then line ∷ continued modes (32 ∷ shown modes v) v vs else continued modes longer v vs

-- the records of values; without any there is one record of one blank
abbrev pub listed : EditModes → List Value → List (List ℕ)
listed modes [] = (32 ∷ []) ∷ []
listed modes (v ∷ vs) = continued modes (32 ∷ shown modes v) v vs

-- records as a text, each with a line feed
abbrev pub text_of : List (List ℕ) → List ℕ
text_of records = flat_map (λ line. line ++ 10 ∷ []) records
