-- List-directed input (ISO/IEC 1539-1:2004, 10.9.1): values split off records, and converted for their items.
use Rattle.std.specs.Prelude.{ℕ, zero, suc, ◌-◌, ◌^◌, Bool, true, false, ◌||◌, ◌&&◌, not, ◌==◌, nat_lt, if◌then◌else◌, List, [], ◌∷◌, ◌++◌, Option, Some, None}
use Rattle.std.specs.Option.{option_map}
use Rattle.std.specs.Char.{is_ascii_digit}
use Rattle.fj_value.specs.Digits.{number_in}
use Rattle.fj_value.specs.declared.value.Cell.{Cell}
use Rattle.fj_value.specs.declared.condition.Condition.{Condition}
use Rattle.fj_value.specs.declared.condition.Condition.TheVariants.{Fine, EndOfFile, Error}
use Rattle.fj_moved.specs.Cells.{kind_at, with_value}
use Rattle.fj_list.specs.Stream.{Stream, stream, records_behind, front, behind, is_blank, skipped}
use Rattle.fj_list.specs.Constant.{read_as}
use Rattle.fj_list.specs.declared.constant.Form.{Form}
use Rattle.fj_list.specs.declared.constant.Form.TheVariants.{Null, Undelimited, Delimited}
use Rattle.fj_list.specs.declared.constant.Read.{Read}
use Rattle.fj_list.specs.declared.constant.Read.TheVariants as read

-- a comma, or under DECIMAL='COMMA' a semicolon
abbrev pub is_separator : Bool → ℕ → Bool
is_separator comma c = c == (if comma then 59 else 44)

-- what ends a constant without delimiters
abbrev pub ends_constant : Bool → ℕ → Bool
ends_constant comma c = is_blank c || (is_separator comma c || (c == 47))

-- an apostrophe or a quotation mark
abbrev pub is_mark : ℕ → Bool
is_mark c = (c == 39) || (c == 34)

-- a constant has ended: a blank, a separator, a slash or the end of a record follows
abbrev pub has_ended : Bool → Stream → Bool
has_ended comma [] = true
has_ended comma (None ∷ s) = true
has_ended comma (Some c ∷ s) = ends_constant comma c

-- What is split off: so many times a constant, and what follows; or the statement ends with a condition there.
pub data Split : Type 0 where
  value : ℕ → Form → List ℕ → Stream → Split
  stopped : Condition → Stream → Split

abbrev pub with_front : List ℕ → Option (List ℕ × Stream) → Option (List ℕ × Stream)
with_front cs found = option_map (λ (p : List ℕ × Stream). (cs ++ p.0, p.1)) found

-- The characters of a delimited constant and what follows its closing mark, where there is one. A mark directly behind
-- another one is a character; else the first one closes the constant. The end of a record is no character.
abbrev pub delimited : ℕ → Bool → Stream → Option (List ℕ × Stream)
delimited mark true [] = Some ([], [])
delimited mark true (None ∷ s) = Some ([], None ∷ s)
delimited mark true (Some c ∷ s) = if c == mark then with_front (mark ∷ []) (delimited mark false s) else Some ([], Some c ∷ s)
delimited mark false [] = None
delimited mark false (None ∷ s) = delimited mark false s
delimited mark false (Some c ∷ s) = if c == mark then delimited mark true s else with_front (c ∷ []) (delimited mark false s)

-- a delimited constant; where its closing mark is missing the records end
abbrev pub closed : Bool → Condition → ℕ → Option (List ℕ × Stream) → Split
closed comma ending count None = stopped ending []
closed comma ending count (Some found) = if has_ended comma found.1 then value count Delimited found.0 found.1 else stopped (Error 13) found.1

-- a constant, delimited where it begins with a mark
abbrev pub constant_at : Bool → Condition → ℕ → Stream → Split
constant_at comma ending count [] = stopped ending []
constant_at comma ending count (None ∷ s) = value count Undelimited [] (None ∷ s)
constant_at comma ending count (Some c ∷ s) =
    if is_mark c then closed comma ending count (delimited c false s)
    else value count Undelimited (front (ends_constant comma) (Some c ∷ s)) (behind (ends_constant comma) (Some c ∷ s))

-- what stands behind a repeat count and its asterisk: nothing for null values, or a constant; a count of 0 or of 2 ^ 32
-- and more is 13
abbrev pub repeated : Bool → Condition → ℕ → Stream → Split
repeated comma ending count s =
    if nat_lt 0 count && nat_lt count (2 ^ 32) then (if has_ended comma s then value count Null [] s else constant_at comma ending count s)
    else stopped (Error 13) s

-- a repeat count, where there are digits and an asterisk
abbrev pub counted : Bool → Condition → Stream → Option ℕ → Stream → Split
counted comma ending s (Some count) (Some c ∷ t) = if c == 42 then repeated comma ending count t else constant_at comma ending 1 s
counted comma ending s (Some count) [] = constant_at comma ending 1 s
counted comma ending s (Some count) (None ∷ t) = constant_at comma ending 1 s
counted comma ending s None t = constant_at comma ending 1 s

abbrev pub is_no_digit : ℕ → Bool
is_no_digit c = not (is_ascii_digit c)

abbrev pub token_at : Bool → Condition → Stream → Split
token_at comma ending s = counted comma ending s (number_in 10 (front is_no_digit s)) (behind is_no_digit s)

-- A value, from its first character on: before a separator stands a null value, and a slash ends the statement.
abbrev pub value_at : Bool → Condition → Stream → Split
value_at comma ending [] = stopped ending []
value_at comma ending (None ∷ s) = stopped ending []
value_at comma ending (Some c ∷ s) =
    if c == 47 then stopped Fine (Some c ∷ s)
    else (if is_separator comma c then value 1 Null [] (Some c ∷ s) else token_at comma ending (Some c ∷ s))

abbrev pub past_separator : Bool → Stream → Stream
past_separator comma [] = []
past_separator comma (None ∷ s) = None ∷ s
past_separator comma (Some c ∷ s) = if is_separator comma c then s else Some c ∷ s

-- where the next value begins: behind another value its separator is passed over
abbrev pub value_start : Bool → Bool → Stream → Stream
value_start comma true s = skipped s
value_start comma false s = skipped (past_separator comma (skipped s))

abbrev pub split : Bool → Condition → Bool → Stream → Split
split comma ending first s = value_at comma ending (value_start comma first s)

-- what is there for an item: a constant that is left of a repeat, or the next value
abbrev pub supplied : ℕ → Form → List ℕ → Stream → Split → Split
supplied zero form cs s next = next
supplied (suc count) form cs s next = value (suc count) form cs s

-- What a statement leaves: the cells, its condition, and the records that it did not look at.
pub record Outcome : Type 0 where
  pub cells : List Cell
  pub condition : Condition
  pub left : List (List ℕ)

-- a null value leaves the cell as it is, and a condition ends the statement
abbrev pub served : Read → List Cell → ℕ → Stream → (List Cell → Outcome) → Outcome
served read.Null cells at s next = next cells
served (read.Defined v) cells at s next = next (with_value cells at v)
served (read.Wrong condition) cells at s next = record { cells = cells; condition = condition; left = records_behind s }

abbrev pub served_from : Split → List Cell → ℕ → (ℕ → Form → List ℕ → Stream → List Cell → Outcome) → Outcome
served_from (value count form cs s) cells at next = served (read_as (kind_at cells at) form cs) cells at s (next (count - 1) form cs s)
served_from (stopped condition s) cells at next = record { cells = cells; condition = condition; left = records_behind s }

-- The items one after another, with a constant that is left for so many of them. The first value has none before it.
abbrev pub items_read : Bool → Condition → List ℕ → List Cell → Bool → ℕ → Form → List ℕ → Stream → Outcome
items_read comma ending [] cells first count form cs s = record { cells = cells; condition = Fine; left = records_behind s }
items_read comma ending (at ∷ order) cells first count form cs s =
    served_from (supplied count form cs s (split comma ending first s)) cells at (λ count' form' cs' s' cells'. items_read comma ending order cells' false count' form' cs' s')

-- the condition of what stands behind the records
abbrev pub condition_of : Option Condition → Condition
condition_of None = EndOfFile
condition_of (Some condition) = condition

-- what a statement reads: the first record is looked at, whatever the items
abbrev pub list_input : Bool → List (List ℕ) → Condition → List Cell → List ℕ → Outcome
list_input comma [] ending cells order = record { cells = cells; condition = ending; left = [] }
list_input comma (line ∷ lines) ending cells order = items_read comma ending order cells true 0 Null [] (stream (line ∷ lines))
