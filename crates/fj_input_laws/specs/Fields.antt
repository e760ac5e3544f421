-- Data edit descriptors on input: what each is for, how wide its field is, and what is told of a field (ISO/IEC 1539-1:2004, 10.6).
use Rattle.std.specs.Prelude.{◌≡◌, ◌≢◌, ℕ, Bool, true, List, Result, Ok, Err, unwrap_or}
use Rattle.fj_value.specs.Edit.{width_of, is_bits_base}
use Rattle.fj_value.specs.Kind.{text_length}
use Rattle.fj_value.specs.declared.edit.Edit.{Edit}
use Rattle.fj_value.specs.declared.edit.Edit.TheVariants as edit
use Rattle.fj_value.specs.declared.kind.Kind.{Kind}
use Rattle.fj_value.specs.declared.kind.Kind.TheVariants.{Int4, Int8, Logical, Chars}
use Rattle.fj_value.specs.declared.value.Value.{Value}
use Rattle.fj_value.specs.declared.condition.Condition.{Condition}
use Rattle.fj_value.specs.declared.condition.Condition.TheVariants.{Fine, EndOfFile, EndOfRecord, Error}
use Rattle.fj_edit_in.specs.InputField.{input_field}

-- I, B, O and Z are for integers, L is for logicals, A for characters, and G for all of them
abbrev pub IsFor : Edit → Kind → Type 0
IsFor (edit.Int w m) Int4 = Unit {0}
IsFor (edit.Int w m) Int8 = Unit {0}
IsFor (edit.Bits base w m) Int4 = is_bits_base base ≡ true
IsFor (edit.Bits base w m) Int8 = is_bits_base base ≡ true
IsFor (edit.Log w) Logical = Unit {0}
IsFor (edit.Chars w) (Chars n) = Unit {0}
IsFor (edit.General w d) k = Unit {0}
IsFor _ _ = ⊥

-- a field is as wide as its descriptor says; under A without a width, as long as the item
abbrev pub field_width : Edit → Kind → ℕ
field_width e k = unwrap_or (width_of e) (unwrap_or (text_length k) 0)

-- what is told of a field: a value, that its characters are none (13), or that the value is out of the range of the kind (14); of
-- characters always a value
abbrev pub IsTold : Kind → Result Value Condition → Type 0
IsTold k (Ok v) = Unit {0}
IsTold (Chars n) (Err condition) = ⊥
IsTold Logical (Err condition) = condition ≡ Error 13
IsTold k (Err (Error n)) = (n ≢ 13 → n ≡ 14)
IsTold k (Err condition) = ⊥

-- 12 is told exactly where the descriptor is not for the kind, whatever the characters
pub record FieldsAreTold : Type 0 where
  pub descriptor_is_for_others : (e : Edit) (k : Kind) (blank_zero : Bool) (chars : List ℕ) → (IsFor e k → ⊥) → input_field e k blank_zero chars ≡ Err (Error 12)
  pub descriptor_is_for_it : (e : Edit) (k : Kind) (blank_zero : Bool) (chars : List ℕ) → IsFor e k → IsTold k (input_field e k blank_zero chars)
