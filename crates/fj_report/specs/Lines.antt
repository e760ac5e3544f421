-- The lines of the report.
use Rattle.std.specs.Prelude.{◌≡◌, ℕ, ℤ, ◌/◌, ◌%◌, ◌==◌, ◌||◌, nat_lt, true, if◌then◌else◌, Bool, List, [], ◌∷◌, ◌++◌, length, take, codes, Option, Some}
use Rattle.std.specs.List.{flat_map}
use Rattle.std.specs.Fmt.{decimal, signed_decimal, digit_glyph}
use Rattle.fj_value.specs.Shown.{letter}
use Rattle.fj_value.specs.declared.value.Value.{Value}
use Rattle.fj_value.specs.declared.value.Value.TheVariants as value
use Rattle.fj_value.specs.declared.condition.Rule.{Rule}
use Rattle.fj_value.specs.declared.condition.Rule.TheVariants.{P1, P2, P3, P4, P5}
use Rattle.fj_statement.specs.declared.reason.Reason.{Reason}
use Rattle.fj_statement.specs.declared.reason.Reason.TheVariants.{TextTooLong, LineTooLong, Syntax, Format, Meaning, TooMany, NoEnd}
use Rattle.fj_report.specs.declared.status.Status.{Status}
use Rattle.fj_report.specs.declared.summary.Summary.{Summary}
use Rattle.fj_report.specs.declared.trace.Tell.{Tell}
use Rattle.fj_report.specs.declared.status.Status.TheVariants.{Ended, ErrorStop, Prohibited, DeckRefused, Usage, ReadFault, WriteFault, DiskFault, Memory}

-- the words of a reason
abbrev pub reason_words : Reason → List ℕ
reason_words TextTooLong = codes "text too long"
reason_words LineTooLong = codes "line too long"
reason_words Syntax = codes "syntax"
reason_words (Format at) = codes "format at "
reason_words Meaning = codes "meaning"
reason_words TooMany = codes "too many"
reason_words NoEnd = codes "no end"

-- the number behind them
abbrev pub reason_number : Reason → List ℕ
reason_number (Format at) = decimal at
reason_number _ = []

abbrev pub rule_text : Rule → List ℕ
rule_text P1 = codes "P1"
rule_text P2 = codes "P2"
rule_text P3 = codes "P3"
rule_text P4 = codes "P4"
rule_text P5 = codes "P5"

unfoldable pub usage_text : List ℕ
usage_text = codes "usage: fjob run [--workers N] [--trace] | alone [--trace] | check | gen --seed N --count M [--text]\n"

-- the line of an answer; faults of the source and the sink, and want of memory, have none
unfoldable pub status_text : Status → List ℕ
status_text Ended = codes "= ended\n"
status_text (ErrorStop stmt code) = codes "= error stop at " ++ decimal stmt ++ codes " with " ++ signed_decimal code ++ codes "\n"
status_text (Prohibited stmt rule) = codes "= prohibited at " ++ decimal stmt ++ codes " by " ++ rule_text rule ++ codes "\n"
status_text (DeckRefused line reason) = codes "= refused at " ++ decimal line ++ codes ": " ++ reason_words reason ++ reason_number reason ++ codes "\n"
status_text Usage = usage_text
status_text ReadFault = []
status_text WriteFault = []
status_text (DiskFault stmt) = codes "= disk fault at " ++ decimal stmt ++ codes "\n"
status_text Memory = []

-- the line of a deck that was read and not carried out
unfoldable pub check_text : ℕ → List ℕ
check_text count = codes "= deck of " ++ decimal count ++ codes " statements\n"

-- the line of a transfer that was told: the line of the statement that tells it, its unit, identifier and condition
unfoldable pub trace_text : ℕ → ℤ → ℕ → ℤ → List ℕ
trace_text stmt unit identifier code = codes "~ " ++ decimal stmt ++ codes " " ++ signed_decimal unit ++ codes " " ++ decimal identifier ++ codes " " ++ signed_decimal code ++ codes "\n"

-- the line of a transfer that was told, and those of all in order
abbrev pub told_text : Tell → List ℕ
told_text tell = trace_text tell.stmt tell.unit tell.tag.0 tell.code

abbrev pub trace_lines : List Tell → List ℕ
trace_lines tells = flat_map told_text tells

-- the line of a look at pending transfers: the line of the statement that looks, the unit, whether some are pending, and how many were done
unfoldable pub look_text : ℕ → ℤ → Bool → ℕ → List ℕ
look_text stmt unit pending done = codes "? " ++ decimal stmt ++ codes " " ++ signed_decimal unit ++ codes " " ++ (letter pending ∷ []) ++ codes " " ++ decimal done ++ codes "\n"

-- the line of a deck that was made and carried out to its end
unfoldable pub summary_text : Summary → List ℕ
summary_text summary =
    codes "= gen seed " ++ decimal summary.seed ++ codes " count " ++ decimal summary.count ++ codes ": " ++ decimal summary.statements
    ++ codes " statements, " ++ decimal summary.tells ++ codes " tells, " ++ decimal summary.conditions ++ codes " conditions, "
    ++ decimal summary.bytes ++ codes " bytes, sum " ++ decimal summary.sum ++ codes "\n"

abbrev pub hexadecimal : ℕ → List ℕ
hexadecimal c = digit_glyph true (c / 16) ∷ digit_glyph true (c % 16) ∷ []

-- a byte between apostrophes: an apostrophe is doubled; a backslash, and what is not 32 to 126, is two hexadecimal digits
-- behind a backslash
abbrev pub shown_byte : ℕ → List ℕ
shown_byte c =
    if c == 39 then 39 ∷ 39 ∷ []
    else if (c == 92) || (nat_lt c 32 || nat_lt 126 c) then 92 ∷ hexadecimal c
    else c ∷ []

-- a value; one that is not there or not defined is a question mark
abbrev pub shown_value : Option Value → List ℕ
shown_value (Some (value.Int n)) = signed_decimal n
shown_value (Some (value.Log truth)) = letter truth ∷ []
shown_value (Some (value.Chars text)) = 39 ∷ [] ++ flat_map shown_byte text ++ 39 ∷ []
shown_value _ = codes "?"

-- an element by its index, and a scalar, whose index is 0, without one
abbrev pub shown_index : ℕ → List ℕ
shown_index index = if index == 0 then [] else codes "(" ++ decimal index ++ codes ")"

-- the line of a variable or an element
unfoldable pub variable_text : List ℕ → ℕ → Option Value → List ℕ
variable_text name index v = name ++ shown_index index ++ codes " = " ++ shown_value v ++ codes "\n"

-- what was there still stands in front
abbrev pub KeepsFront : List ℕ → List ℕ → Type 0
KeepsFront old new = take (length old) new ≡ old
