-- The value of a constant in list-directed input (ISO/IEC 1539-1:2004, 10.9.1), by the kind of the item.
use Rattle.std.specs.Prelude.{ℕ, Bool, true, false, ◌==◌, if◌then◌else◌, List, [], ◌∷◌, Option, Some, None, ℤ}
use Rattle.std.specs.Option.{option_map}
use Rattle.fj_value.specs.Digits.{number_in}
use Rattle.fj_value.specs.Kind.{fits_bits}
use Rattle.fj_value.specs.Reading.{with_sign, truth_read, assigned_text}
use Rattle.fj_value.specs.declared.kind.Kind.{Kind}
use Rattle.fj_value.specs.declared.kind.Kind.TheVariants.{Int4, Int8, Logical, Chars}
use Rattle.fj_value.specs.declared.value.Value.TheVariants as value
use Rattle.fj_value.specs.declared.condition.Condition.TheVariants.{Error}
use Rattle.fj_list.specs.declared.constant.Form.{Form}
use Rattle.fj_list.specs.declared.constant.Form.TheVariants as form
use Rattle.fj_list.specs.declared.constant.Read.{Read}
use Rattle.fj_list.specs.declared.constant.Read.TheVariants as read

abbrev pub signed_number : Bool → List ℕ → Option ℤ
signed_number negative digits = option_map (with_sign negative) (number_in 10 digits)

-- digits behind an optional sign
abbrev pub integer_in : List ℕ → Option ℤ
integer_in [] = None
integer_in (c ∷ cs) = if c == 45 then signed_number true cs else (if c == 43 then signed_number false cs else signed_number false (c ∷ cs))

-- 13 where the characters are no number, and 14 where it has more bits
abbrev pub integer_read : ℕ → Option ℤ → Read
integer_read bits None = read.Wrong (Error 13)
integer_read bits (Some n) = if fits_bits bits n then read.Defined (value.Int n) else read.Wrong (Error 14)

abbrev pub logical_read : Option Bool → Read
logical_read None = read.Wrong (Error 13)
logical_read (Some truth) = read.Defined (value.Log truth)

-- a constant without delimiters
abbrev pub undelimited_read : Kind → List ℕ → Read
undelimited_read Int4 cs = integer_read 32 (integer_in cs)
undelimited_read Int8 cs = integer_read 64 (integer_in cs)
undelimited_read Logical cs = logical_read (truth_read cs)
undelimited_read (Chars n) cs = read.Defined (value.Chars (assigned_text n cs))

-- a delimited constant is for character items alone
abbrev pub delimited_read : Kind → List ℕ → Read
delimited_read (Chars n) cs = read.Defined (value.Chars (assigned_text n cs))
delimited_read _ cs = read.Wrong (Error 13)

abbrev pub read_as : Kind → Form → List ℕ → Read
read_as kind form.Null cs = read.Null
read_as kind form.Undelimited cs = undelimited_read kind cs
read_as kind form.Delimited cs = delimited_read kind cs
