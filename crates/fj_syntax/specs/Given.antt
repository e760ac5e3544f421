-- What may be given for a specifier.
use Rattle.std.specs.Prelude.{ℕ, ◌-◌, Bool, false, ◌==◌, nat_le, List, length, take, Option, Some, None, if◌then◌else◌}
use Rattle.std.specs.List.{suffix_len}
use Rattle.fj_modes.specs.FileName.{is_file_name}
use Rattle.fj_modes.specs.ModeWords.{Table, mode_of}
use Rattle.fj_syntax.specs.Arguments.{Argument, Given, Asterisk, AnOperand, given_of, given_for}
use Rattle.fj_syntax.specs.Parts.{Tokens, Designator, Operand, Number, Literal, Place}
use Rattle.fj_syntax.specs.Reading.{◌>>=◌, optional}
use Rattle.fj_syntax.specs.Tokens.{Sign, Unsigned, Minus}
use Rattle.fj_syntax.specs.Words.{Specifier}
use Rattle.fj_syntax.specs.declared.words.Specifier.TheVariants as specifier
use Rattle.fj_syntax.specs.declared.written.Format.{Format}
use Rattle.fj_syntax.specs.declared.written.Format.TheVariants as format
use Rattle.fj_syntax.specs.declared.written.Unit.{Unit}
use Rattle.fj_syntax.specs.declared.written.Unit.TheVariants as unit

-- without the blanks at the end
abbrev pub trimmed : List ℕ → List ℕ
trimmed text = take (length text - suffix_len (λ c. c == 32) text) text

-- what is given for a specifier has this form, where it stands
unfoldable pub given_at : {A : Type 0} → (Given → Option A) → Specifier → List Argument → Option (Option A)
given_at form s args = optional form (given_for s args)

-- IOSTAT=, SIZE= and others: a place
abbrev pub place_given : Given → Option Designator
place_given (AnOperand (Place d)) = Some d
place_given g = None

-- REC=, POS= and others: an integer literal or a place
abbrev pub integer_given : Given → Option Operand
integer_given (AnOperand (Number s n)) = Some (Number s n)
integer_given (AnOperand (Place d)) = Some (Place d)
integer_given g = None

-- a literal of one of the words, blanks at its end ignored
abbrev pub mode_given : {M : Type 0} → Table M → Given → Option M
mode_given words (AnOperand (Literal text)) = mode_of words (trimmed text)
mode_given words g = None

unfoldable pub mode_at : {M : Type 0} → Table M → Specifier → List Argument → Option (Option M)
mode_at words s args = optional (mode_given words) (given_for s args)

-- FILE=: a literal that is a file name, blanks at its end ignored
abbrev pub file_given : Given → Option (List ℕ)
file_given (AnOperand (Literal text)) = if is_file_name (trimmed text) then Some (trimmed text) else None
file_given g = None

-- without a sign, 0 to 2147483647
abbrev pub unit_number : ℕ → Option Unit
unit_number n = if nat_le n 2147483647 then Some (unit.Number n) else None

-- UNIT=: a number, a place, or an asterisk where that may stand
abbrev pub unit_given : Bool → Given → Option Unit
unit_given star (AnOperand (Number Unsigned n)) = unit_number n
unit_given star (AnOperand (Place d)) = Some (unit.Place d)
unit_given star Asterisk = if star then Some unit.Star else None
unit_given star g = None

abbrev pub unit_at : Bool → List Argument → Option Unit
unit_at star args = given_for specifier.Unit args >>= unit_given star

-- UNIT= or NEWUNIT= of OPEN, and not both; NEWUNIT= has a place (ISO/IEC 1539-1:2010, 9.5.6.12)
abbrev pub unit_or_new : Option Given → Option Given → Option Unit
unit_or_new (Some u) None = unit_given false u
unit_or_new None (Some p) = place_given p >>= (λ d. Some (unit.New d))
unit_or_new u p = None

abbrev pub unit_opened : List Argument → Option Unit
unit_opened args = unit_or_new (given_for specifier.Unit args) (given_for specifier.Newunit args)

-- a unit that stands alone
abbrev pub bare_unit : Tokens → Option Unit
bare_unit ts = given_of ts >>= unit_given false

-- FMT=: an asterisk or a literal
abbrev pub format_given : Given → Option Format
format_given Asterisk = Some format.Asterisk
format_given (AnOperand (Literal text)) = Some (format.Literal text)
format_given g = None

-- NML=: a name alone
abbrev pub name_alone : List ℕ → Option ℕ → Option (List ℕ)
name_alone name None = Some name
name_alone name (Some n) = None

abbrev pub group_given : Given → Option (List ℕ)
group_given (AnOperand (Place d)) = name_alone d.name d.number
group_given g = None

-- RECL=: a literal of 0 to 2147483647, with a sign or without
abbrev pub length_from : Sign → ℕ → Option ℕ
length_from Minus n = if n == 0 then Some 0 else None
length_from s n = if nat_le n 2147483647 then Some n else None

abbrev pub recl_given : Given → Option ℕ
recl_given (AnOperand (Number s n)) = length_from s n
recl_given g = None
