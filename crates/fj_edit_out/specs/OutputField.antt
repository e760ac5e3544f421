-- The characters of an output field (ISO/IEC 1539-1:2004, 10.6).
use Rattle.std.specs.Prelude.{ℕ, ◌-◌, ◌<◌, ◌≡◌, Bool, ◌==◌, nat_lt, if◌then◌else◌, List, [], ◌∷◌, ◌++◌, length, take, replicate, Option, Some, None, ℤ, unsigned_abs}
use Rattle.fj_value.specs.Digits.{numeral}
use Rattle.fj_value.specs.Shown.{letter, sign}
use Rattle.fj_value.specs.declared.edit.Edit.{Edit}
use Rattle.fj_value.specs.declared.edit.Edit.TheVariants as edit
use Rattle.fj_value.specs.declared.kind.Kind.{Kind}
use Rattle.fj_value.specs.declared.kind.Kind.TheVariants.{Int4, Int8, Logical, Chars}
use Rattle.fj_value.specs.declared.value.Value.{Value}
use Rattle.fj_value.specs.declared.condition.Condition.{Condition}
use Rattle.fj_value.specs.declared.condition.Condition.TheVariants.{Fine, Error}
use Rattle.fj_value.specs.Edit.{integer_widths, bits_widths, logical_width, text_width, width_of}
use Rattle.fj_edit_out.specs.Item.{integer_in, bits_in, logical_in, text_in}

-- the least number of digits; where the descriptor names none it is one
abbrev pub least_digits : Option ℕ → ℕ
least_digits None = 1
least_digits (Some m) = m

-- digits, with zeros in front up to the least number
abbrev pub zero_filled : Option ℕ → List ℕ → List ℕ
zero_filled m digits = replicate (least_digits m - length digits) 48 ++ digits

-- a sign stands where there are digits
abbrev pub with_sign : List ℕ → List ℕ → List ℕ
with_sign sign digits = if length digits == 0 then [] else sign ++ digits

-- right adjusted in a width, or asterisks where it is too small; width 0 asks for the text alone, with a blank for none
abbrev pub adjusted : ℕ → List ℕ → List ℕ
adjusted w text =
    if w == 0 then (if length text == 0 then 32 ∷ [] else text)
    else (if nat_lt w (length text) then replicate w 42 else replicate (w - length text) 32 ++ text)

-- I (10.6.1.1)
abbrev pub integer_field : Bool → ℕ × Option ℕ → ℤ → List ℕ
integer_field plus (w, m) n = adjusted w (with_sign (sign plus n) (zero_filled m (numeral 10 (unsigned_abs n))))

-- B, O and Z (10.6.1.1), of a number's two's complement
abbrev pub bits_field : ℕ × ℕ × Option ℕ → ℕ → List ℕ
bits_field (base, w, m) bits = adjusted w (zero_filled m (numeral base bits))

-- L (10.6.2)
abbrev pub logical_field : ℕ → Bool → List ℕ
logical_field w truth = replicate (w - 1) 32 ++ letter truth ∷ []

-- A (10.6.3): with a width the first characters, behind the blanks that they leave
abbrev pub text_field : Option ℕ → List ℕ → List ℕ
text_field None text = text
text_field (Some w) text = replicate (w - length text) 32 ++ take w text

-- the field where the descriptor is for the item and the item has a value
abbrev pub field_of : {D V : Type 0} → (D → V → List ℕ) → Option D → Option V → Option (List ℕ)
field_of write (Some d) (Some v) = Some (write d v)
field_of write (Some d) None = None
field_of write None v = None

abbrev pub integer_output : Edit → Value → Kind → Bool → Option (List ℕ)
integer_output e v k plus = field_of (integer_field plus) (integer_widths e) (integer_in k v)

abbrev pub bits_output : Edit → Value → Kind → Option (List ℕ)
bits_output e v k = field_of bits_field (bits_widths e) (bits_in k v)

abbrev pub logical_output : Edit → Value → Kind → Option (List ℕ)
logical_output e v k = field_of logical_field (logical_width e) (logical_in k v)

abbrev pub text_output : Edit → Value → Kind → Option (List ℕ)
text_output e v k = field_of text_field (text_width e) (text_in k v)

-- the field by the descriptor, and for G (10.6.4) by the kind; none where they do not go together or there is no value
abbrev pub output_field : Edit → Value → Kind → Bool → Option (List ℕ)
output_field (edit.Int w m) v k plus = integer_output (edit.Int w m) v k plus
output_field (edit.Bits base w m) v k plus = bits_output (edit.Bits base w m) v k
output_field (edit.Log w) v k plus = logical_output (edit.Log w) v k
output_field (edit.Chars w) v k plus = text_output (edit.Chars w) v k
output_field (edit.General w d) v Int4 plus = integer_output (edit.General w d) v Int4 plus
output_field (edit.General w d) v Int8 plus = integer_output (edit.General w d) v Int8 plus
output_field (edit.General w d) v Logical plus = logical_output (edit.General w d) v Logical
output_field (edit.General w d) v (Chars n) plus = text_output (edit.General w d) v (Chars n)

-- a field is appended, or the condition is that there is none and nothing is
abbrev pub Appends : Option (List ℕ) → List ℕ → List ℕ → Condition → Type 0
Appends (Some field) old new condition = (condition ≡ Fine) × (new ≡ old ++ field)
Appends None old new condition = (condition ≡ Error 12) × (new ≡ old)

-- a field has as many characters as its descriptor's width, where that is not 0
abbrev pub FieldsFillTheirWidth : Type 0
FieldsFillTheirWidth = (e : Edit) (v : Value) (k : Kind) (plus : Bool) (w : ℕ) (field : List ℕ) → width_of e ≡ Some w → 0 < w → output_field e v k plus ≡ Some field → length field ≡ w
