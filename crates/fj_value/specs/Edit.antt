-- What data edit descriptors are for, and the widths that they name.
use Rattle.std.specs.Prelude.{ℕ, Bool, ◌||◌, ◌==◌, if◌then◌else◌, Option, Some, None}
use Rattle.fj_value.specs.declared.edit.Edit.{Edit}
use Rattle.fj_value.specs.declared.edit.Edit.TheVariants as edit

-- for integers in decimal, the width and the least number of digits
abbrev pub integer_widths : Edit → Option (ℕ × Option ℕ)
integer_widths (edit.Int w m) = Some (w, m)
integer_widths (edit.General w d) = Some (w, None)
integer_widths _ = None

-- whether B, O or Z has this base
abbrev pub is_bits_base : ℕ → Bool
is_bits_base base = (base == 2) || ((base == 8) || (base == 16))

-- for integers in base 2, 8 or 16, the base, the width and the least number of digits
abbrev pub bits_widths : Edit → Option (ℕ × ℕ × Option ℕ)
bits_widths (edit.Bits base w m) = if is_bits_base base then Some (base, w, m) else None
bits_widths _ = None

-- for logicals, the width
abbrev pub logical_width : Edit → Option ℕ
logical_width (edit.Log w) = Some w
logical_width (edit.General w d) = Some w
logical_width _ = None

-- for characters, the width, where the descriptor names one; G0 is A there (ISO/IEC 1539-1:2010, 10.7.5.2)
abbrev pub text_width : Edit → Option (Option ℕ)
text_width (edit.Chars w) = Some w
text_width (edit.General w d) = Some (if w == 0 then None else Some w)
text_width _ = None

-- the width that a descriptor names
abbrev pub width_of : Edit → Option ℕ
width_of (edit.Int w m) = Some w
width_of (edit.Bits base w m) = Some w
width_of (edit.Log w) = Some w
width_of (edit.Chars w) = w
width_of (edit.General w d) = Some w
