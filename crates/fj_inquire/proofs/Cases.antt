-- Worked cases.
use Rattle.std.specs.Prelude.{◌≡◌, pos, negsuc, codes, true, false, Some, None, refl}
use Rattle.fj_value.specs.declared.edit.Delim.TheVariants.{Plain}
use Rattle.fj_value.specs.declared.kind.Kind.TheVariants.{Int4, Int8, Logical, Chars}
use Rattle.fj_value.specs.declared.value.Value.TheVariants as value
use Rattle.fj_modes.specs.declared.modes.Modes.{Modes}
use Rattle.fj_modes.specs.declared.specifiers.Access.{Access}
use Rattle.fj_modes.specs.declared.specifiers.Access.TheVariants.{Stream}
use Rattle.fj_modes.specs.declared.specifiers.Action.TheVariants.{ReadWrite}
use Rattle.fj_modes.specs.declared.specifiers.Start.TheVariants.{AsIs}
use Rattle.fj_modes.specs.declared.asked.Question.TheVariants.{Exist, Number, Pos, Size, Nextrec, Pending, Access as Accessed}
use Rattle.fj_connect.specs.declared.spot.Within.TheVariants.{Outside}
use Rattle.fj_inquire.specs.Inquiring.{About, connection, file, answer_to, value_for}

-- a file that is not there: EXIST= is false and NUMBER= is -1
missing : value_for Logical (answer_to (file (codes "X") false) Exist) ≡ value.Log false
missing = refl

no_number : value_for Int4 (answer_to (file (codes "X") false) Number) ≡ value.Int (negsuc 0)
no_number = refl

abbrev modes : Access → Modes
modes access = record {
  access = access;
  formatted = false;
  recl = 4;
  action = ReadWrite;
  asynchronous = false;
  scratch = false;
  start = AsIs;
  edit = record { blank_zero = false; comma = false; delim = Plain; pad = true; plus = false };
}

-- six bytes were written to a stream by a transfer that is pending: POS= is 7, SIZE= is 6, PENDING= is true
abbrev written : About
written = connection (pos 10) (record { modes = modes Stream; name = codes "S" })
    (Some (record { spot = record { at = 6; start = 6; within = Outside; after_end = false; next_number = 1 }; size = 6 })) true

at_seven : value_for Int4 (answer_to written Pos) ≡ value.Int (pos 7)
at_seven = refl

of_six : value_for Int8 (answer_to written Size) ≡ value.Int (pos 6)
of_six = refl

is_pending : value_for Logical (answer_to written Pending) ≡ value.Log true
is_pending = refl

-- NUMBER= of a unit that NEWUNIT= gave is below 0
new_number : value_for Int4 (answer_to (connection (negsuc 9) (record { modes = modes Stream; name = codes "SCRATCH.-10" }) None false) Number) ≡ value.Int (negsuc 9)
new_number = refl

no_record : value_for Int4 (answer_to written Nextrec) ≡ value.Undefined
no_record = refl

-- a word is cut, or has blanks behind it
cut_word : value_for (Chars 3) (answer_to written Accessed) ≡ value.Chars (codes "STR")
cut_word = refl

filled_word : value_for (Chars 8) (answer_to written Accessed) ≡ value.Chars (codes "STREAM  ")
filled_word = refl
