-- A blank in front of a field.
use Rattle.std.proofs.Common.{◌≡◌, ℕ, Bool, List, ◌∷◌, Option, Some, None, refl, ap}
use Rattle.fj_value.specs.Edit.{bits_widths}
use Rattle.fj_value.specs.Kind.{integer_bits, text_length}
use Rattle.fj_value.specs.declared.edit.Edit.{Edit}
use Rattle.fj_value.specs.declared.edit.Edit.TheVariants as edit
use Rattle.fj_value.specs.declared.kind.Kind.{Kind}
use Rattle.fj_value.specs.declared.kind.Kind.TheVariants.{Int4, Int8, Logical, Chars}
use Rattle.fj_edit_in.proofs.BlankLaws.{trimmed-blank}
use Rattle.fj_value.specs.Reading.{truth_read}
use Rattle.fj_edit_in.specs.InputField.{input_field, read_by, integer_value, bits_value, logical_value, logical_kind, signed_number, unsigned_number}

integers : (d : Option (ℕ × Option ℕ)) (k : Kind) (blank_zero : Bool) (s t : List ℕ) → s ≡ t → read_by d (integer_bits k) (λ _ bits. integer_value bits (signed_number blank_zero s)) ≡ read_by d (integer_bits k) (λ _ bits. integer_value bits (signed_number blank_zero t))
integers d k blank_zero s t same = ap (λ x. read_by d (integer_bits k) (λ _ bits. integer_value bits (signed_number blank_zero x))) same

all_bits : (d : Option (ℕ × ℕ × Option ℕ)) (k : Kind) (blank_zero : Bool) (s t : List ℕ) → s ≡ t → read_by d (integer_bits k) (λ w bits. bits_value bits (unsigned_number w.0 blank_zero s)) ≡ read_by d (integer_bits k) (λ w bits. bits_value bits (unsigned_number w.0 blank_zero t))
all_bits d k blank_zero s t same = ap (λ x. read_by d (integer_bits k) (λ w bits. bits_value bits (unsigned_number w.0 blank_zero x))) same

logicals : (d : Option ℕ) (k : Kind) (s t : List ℕ) → s ≡ t → read_by d (logical_kind k) (λ _ _. logical_value (truth_read s)) ≡ read_by d (logical_kind k) (λ _ _. logical_value (truth_read t))
logicals d k s t same = ap (λ x. read_by d (logical_kind k) (λ _ _. logical_value (truth_read x))) same

pub leading_blank : (e : Edit) (k : Kind) (blank_zero : Bool) (chars : List ℕ) → text_length k ≡ None → input_field e k blank_zero (32 ∷ chars) ≡ input_field e k blank_zero chars
leading_blank (edit.Int w m) k blank_zero chars kind = integers (Some (w, m)) k blank_zero _ _ (trimmed-blank chars)
leading_blank (edit.Bits base w m) k blank_zero chars kind = all_bits (bits_widths (edit.Bits base w m)) k blank_zero _ _ (trimmed-blank chars)
leading_blank (edit.Log w) k blank_zero chars kind = logicals (Some w) k _ _ (trimmed-blank chars)
leading_blank (edit.Chars w) (Chars n) blank_zero chars kind = cc
leading_blank (edit.Chars w) _ blank_zero chars kind = refl
leading_blank (edit.General w d) Int4 blank_zero chars kind = integers (Some (w, None)) Int4 blank_zero _ _ (trimmed-blank chars)
leading_blank (edit.General w d) Int8 blank_zero chars kind = integers (Some (w, None)) Int8 blank_zero _ _ (trimmed-blank chars)
leading_blank (edit.General w d) Logical blank_zero chars kind = logicals (Some w) Logical _ _ (trimmed-blank chars)
leading_blank (edit.General w d) (Chars n) blank_zero chars kind = cc
