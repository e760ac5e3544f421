-- Worked cases of the definition of input fields.
use Rattle.std.proofs.Common.{◌≡◌, true, false, refl, None, Some, Ok, Err, pos, negsuc}
use Rattle.std.specs.Prelude.{codes}
use Rattle.fj_value.specs.Digits.{number_in, from_twos_complement}
use Rattle.fj_value.specs.declared.edit.Edit.TheVariants as edit
use Rattle.fj_value.specs.declared.kind.Kind.TheVariants.{Int4, Logical, Chars}
use Rattle.fj_value.specs.declared.value.Value.TheVariants as value
use Rattle.fj_value.specs.declared.condition.Condition.TheVariants.{Error}
use Rattle.fj_edit_in.specs.InputField.{trimmed, blanks_read, input_field}

-- the definition gives what is worked out by hand
pub record AreRight : Type 0 where
  pub last : input_field (edit.Chars (Some 5)) (Chars 3) false (codes "abcde") ≡ Ok (value.Chars (codes "cde"))
  pub padded : input_field (edit.Chars (Some 1)) (Chars 3) false (codes "a") ≡ Ok (value.Chars (codes "a  "))
  pub all_ones : input_field (edit.Bits 16 8 None) Int4 false (codes "FFFFFFFF") ≡ Ok (value.Int (negsuc 0))
  pub too_great : input_field (edit.Int 11 None) Int4 false (codes "02147483648") ≡ Err (Error 14)
  pub least : input_field (edit.Int 11 None) Int4 false (codes "-2147483648") ≡ Ok (value.Int (negsuc 2147483647))
  pub no_digit : input_field (edit.Int 3 None) Int4 false (codes "1x2") ≡ Err (Error 13)
  pub no_digits : input_field (edit.Int 1 None) Int4 true (codes "-") ≡ Err (Error 13)
  pub all_blank : input_field (edit.Int 2 None) Int4 true (codes "  ") ≡ Ok (value.Int (pos 0))
  pub null_blanks : input_field (edit.Int 4 None) Int4 false (codes "1 2 ") ≡ Ok (value.Int (pos 12))
  pub zero_blanks : input_field (edit.Int 4 None) Int4 true (codes "1 2 ") ≡ Ok (value.Int (pos 1020))
  pub letter : input_field (edit.Log 4) Logical false (codes " .tr") ≡ Ok (value.Log true)
  pub other_kind : input_field (edit.Log 4) Int4 false (codes "T") ≡ Err (Error 12)

pub are_right : AreRight
unfolding trimmed blanks_read number_in from_twos_complement
are_right = record { last = refl; padded = refl; all_ones = refl; too_great = refl; least = refl; no_digit = refl; no_digits = refl; all_blank = refl; null_blanks = refl; zero_blanks = refl; letter = refl; other_kind = refl }
