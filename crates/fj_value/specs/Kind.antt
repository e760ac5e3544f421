-- Which values are of a kind.
use Rattle.std.specs.Prelude.{◌≡◌, ℕ, ◌-◌, ◌^◌, Bool, nat_lt, ℤ, pos, negsuc, ◌≤ℤ◌, ◌-ℤ◌, ◌<ℤ◌, length, Option, Some, None}
use Rattle.fj_value.specs.declared.kind.Kind.{Kind}
use Rattle.fj_value.specs.declared.kind.Kind.TheVariants.{Int4, Int8, Logical, Chars}
use Rattle.fj_value.specs.declared.value.Value.{Value}
use Rattle.fj_value.specs.declared.value.Value.TheVariants as value

-- a number of this many bits in two's complement, the sign's bit among them
abbrev pub FitsBits : ℕ → ℤ → Type 0
FitsBits bits n = ((pos 0 -ℤ pos (2 ^ (bits - 1))) ≤ℤ n) × (n <ℤ pos (2 ^ (bits - 1)))

-- a defined value of the kind
abbrev pub IsOfKind : Kind → Value → Type 0
IsOfKind Int4 (value.Int n) = FitsBits 32 n
IsOfKind Int8 (value.Int n) = FitsBits 64 n
IsOfKind Logical (value.Log b) = Unit {0}
IsOfKind (Chars n) (value.Chars text) = length text ≡ n
IsOfKind _ _ = ⊥

-- the bits of an integer kind
abbrev pub integer_bits : Kind → Option ℕ
integer_bits Int4 = Some 32
integer_bits Int8 = Some 64
integer_bits _ = None

-- the length of a character kind
abbrev pub text_length : Kind → Option ℕ
text_length (Chars n) = Some n
text_length _ = None

-- the test of `FitsBits`
abbrev pub fits_bits : ℕ → ℤ → Bool
fits_bits bits (pos n) = nat_lt n (2 ^ (bits - 1))
fits_bits bits (negsuc n) = nat_lt n (2 ^ (bits - 1))
