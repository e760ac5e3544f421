-- The value of an input field (ISO/IEC 1539-1:2004, 10.6), or the condition where it has none.
use Rattle.std.specs.Prelude.{ℕ, ◌-◌, ◌^◌, ◌≡◌, Bool, true, false, not, ◌==◌, nat_lt, if◌then◌else◌, List, [], ◌∷◌, length, map, filter, drop, Option, Some, None, Result, Ok, Err, ℤ, pos}
use Rattle.std.specs.List.{prefix_len}
use Rattle.std.specs.Option.{option_map}
use Rattle.fj_value.specs.Digits.{number_in, from_twos_complement}
use Rattle.fj_value.specs.Edit.{integer_widths, bits_widths, logical_width, text_width}
use Rattle.fj_value.specs.Kind.{integer_bits, text_length, fits_bits}
use Rattle.fj_value.specs.Reading.{with_sign, truth_read, assigned_text}
use Rattle.fj_value.specs.declared.edit.Edit.{Edit}
use Rattle.fj_value.specs.declared.edit.Edit.TheVariants as edit
use Rattle.fj_value.specs.declared.kind.Kind.{Kind}
use Rattle.fj_value.specs.declared.kind.Kind.TheVariants.{Int4, Int8, Logical, Chars}
use Rattle.fj_value.specs.declared.value.Value.{Value}
use Rattle.fj_value.specs.declared.value.Value.TheVariants as value
use Rattle.fj_value.specs.declared.condition.Condition.{Condition}
use Rattle.fj_value.specs.declared.condition.Condition.TheVariants.{Fine, Error}

-- the characters from the first on that is no blank
unfoldable pub trimmed : List ℕ → List ℕ
trimmed cs = drop (prefix_len (λ c. c == 32) cs) cs

-- a blank among digits is a zero under BZ and left out under BN (10.7.6)
unfoldable pub blanks_read : Bool → List ℕ → List ℕ
blanks_read true cs = map (λ c. if c == 32 then 48 else c) cs
blanks_read false cs = filter (λ c. not (c == 32)) cs

-- the number of decimal digits and blanks
abbrev pub signed_digits : Bool → Bool → List ℕ → Option ℤ
signed_digits negative blank_zero cs = option_map (with_sign negative) (number_in 10 (blanks_read blank_zero cs))

-- the same behind an optional sign; a field of blanks is 0
abbrev pub signed_number : Bool → List ℕ → Option ℤ
signed_number blank_zero [] = Some (pos 0)
signed_number blank_zero (c ∷ cs) =
    if c == 45 then signed_digits true blank_zero cs
    else (if c == 43 then signed_digits false blank_zero cs else signed_digits false blank_zero (c ∷ cs))

-- digits of a base; a field of blanks is 0
abbrev pub unsigned_number : ℕ → Bool → List ℕ → Option ℕ
unsigned_number base blank_zero [] = Some 0
unsigned_number base blank_zero (c ∷ cs) = number_in base (blanks_read blank_zero (c ∷ cs))

-- the last n characters, or all of them and blanks
abbrev pub characters_read : ℕ → List ℕ → List ℕ
characters_read n chars = assigned_text n (drop (length chars - n) chars)

-- a number of so many bits: 13 where the characters are no number, 14 where it has more bits
abbrev pub integer_value : ℕ → Option ℤ → Result Value Condition
integer_value bits None = Err (Error 13)
integer_value bits (Some z) = if fits_bits bits z then Ok (value.Int z) else Err (Error 14)

-- the number whose two's complement was read
abbrev pub bits_value : ℕ → Option ℕ → Result Value Condition
bits_value bits None = Err (Error 13)
bits_value bits (Some n) = if nat_lt n (2 ^ bits) then Ok (value.Int (from_twos_complement bits n)) else Err (Error 14)

abbrev pub logical_value : Option Bool → Result Value Condition
logical_value None = Err (Error 13)
logical_value (Some truth) = Ok (value.Log truth)

-- what is read where the descriptor is for the kind, and else 12
abbrev pub read_by : {D K : Type 0} → Option D → Option K → (D → K → Result Value Condition) → Result Value Condition
read_by (Some d) (Some k) read = read d k
read_by (Some d) None read = Err (Error 12)
read_by None k read = Err (Error 12)

-- I (10.6.1.1)
abbrev pub integer_input : Edit → Kind → Bool → List ℕ → Result Value Condition
integer_input e k blank_zero chars = read_by (integer_widths e) (integer_bits k) (λ _ bits. integer_value bits (signed_number blank_zero (trimmed chars)))

-- B, O and Z (10.6.1.1)
abbrev pub bits_input : Edit → Kind → Bool → List ℕ → Result Value Condition
bits_input e k blank_zero chars = read_by (bits_widths e) (integer_bits k) (λ d bits. bits_value bits (unsigned_number d.0 blank_zero (trimmed chars)))

abbrev pub logical_kind : Kind → Option (Unit {0})
logical_kind Logical = Some tt
logical_kind _ = None

-- L (10.6.2)
abbrev pub logical_input : Edit → Kind → List ℕ → Result Value Condition
logical_input e k chars = read_by (logical_width e) (logical_kind k) (λ _ _. logical_value (truth_read (trimmed chars)))

-- A (10.6.3)
abbrev pub text_input : Edit → Kind → List ℕ → Result Value Condition
text_input e k chars = read_by (text_width e) (text_length k) (λ _ n. Ok (value.Chars (characters_read n chars)))

-- by the descriptor, and for G (10.6.4) by the kind
abbrev pub input_field : Edit → Kind → Bool → List ℕ → Result Value Condition
input_field (edit.Int w m) k blank_zero chars = integer_input (edit.Int w m) k blank_zero chars
input_field (edit.Bits base w m) k blank_zero chars = bits_input (edit.Bits base w m) k blank_zero chars
input_field (edit.Log w) k blank_zero chars = logical_input (edit.Log w) k chars
input_field (edit.Chars w) k blank_zero chars = text_input (edit.Chars w) k chars
input_field (edit.General w d) Int4 blank_zero chars = integer_input (edit.General w d) Int4 blank_zero chars
input_field (edit.General w d) Int8 blank_zero chars = integer_input (edit.General w d) Int8 blank_zero chars
input_field (edit.General w d) Logical blank_zero chars = logical_input (edit.General w d) Logical chars
input_field (edit.General w d) (Chars n) blank_zero chars = text_input (edit.General w d) (Chars n) chars

-- the variable gets the value, or the condition comes and it stays as it was
abbrev pub Reads : Result Value Condition → Value → Value → Condition → Type 0
Reads (Ok v) old new condition = (condition ≡ Fine) × (new ≡ v)
Reads (Err e) old new condition = (condition ≡ e) × (new ≡ old)

-- a blank in front of a field has no effect, but for characters
abbrev pub LeadingBlanksHaveNoEffect : Type 0
LeadingBlanksHaveNoEffect = (e : Edit) (k : Kind) (blank_zero : Bool) (chars : List ℕ) → text_length k ≡ None → input_field e k blank_zero (32 ∷ chars) ≡ input_field e k blank_zero chars
