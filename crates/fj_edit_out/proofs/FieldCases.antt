-- Worked cases of the definition of output fields.
use Rattle.std.proofs.Common.{◌≡◌, true, false, refl, Some, None, pos, negsuc}
use Rattle.std.specs.Prelude.{codes}
use Rattle.fj_value.specs.Digits.{numeral, twos_complement}
use Rattle.fj_value.specs.declared.edit.Edit.TheVariants as edit
use Rattle.fj_value.specs.declared.kind.Kind.TheVariants.{Int4, Logical, Chars}
use Rattle.fj_value.specs.declared.value.Value.TheVariants as value
use Rattle.fj_edit_out.specs.OutputField.{output_field}

-- the definition gives what is worked out by hand
pub record AreRight : Type 0 where
  pub plus : output_field (edit.Int 4 None) (value.Int (pos 5)) Int4 true ≡ Some (codes "  +5")
  pub minus : output_field (edit.Int 5 (Some 3)) (value.Int (negsuc 6)) Int4 false ≡ Some (codes " -007")
  pub no_digits : output_field (edit.Int 3 (Some 0)) (value.Int (pos 0)) Int4 true ≡ Some (codes "   ")
  pub too_long : output_field (edit.Int 2 None) (value.Int (pos 123)) Int4 false ≡ Some (codes "**")
  pub octal : output_field (edit.Bits 8 4 None) (value.Int (pos 8)) Int4 false ≡ Some (codes "  10")
  pub hexadecimal : output_field (edit.Bits 16 4 (Some 2)) (value.Int (pos 10)) Int4 false ≡ Some (codes "  0A")
  pub cut : output_field (edit.Chars (Some 2)) (value.Chars (codes "abc")) (Chars 3) false ≡ Some (codes "ab")
  pub moved : output_field (edit.General 5 1) (value.Chars (codes "abc")) (Chars 3) false ≡ Some (codes "  abc")
  pub logical : output_field (edit.Log 3) (value.Log false) Logical false ≡ Some (codes "  F")
  pub general : output_field (edit.General 0 0) (value.Int (negsuc 6)) Int4 false ≡ Some (codes "-7")
  pub general_logical : output_field (edit.General 0 0) (value.Log true) Logical false ≡ Some (codes "T")
  pub general_text : output_field (edit.General 0 0) (value.Chars (codes "ab")) (Chars 2) false ≡ Some (codes "ab")
  pub undefined : output_field (edit.Int 4 None) value.Undefined Int4 false ≡ None

pub are_right : AreRight
unfolding numeral twos_complement
are_right = record { plus = refl; minus = refl; no_digits = refl; too_long = refl; octal = refl; hexadecimal = refl; cut = refl; moved = refl; logical = refl; general = refl; general_logical = refl; general_text = refl; undefined = refl }
