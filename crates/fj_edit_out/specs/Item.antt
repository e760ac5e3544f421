-- What an output item holds, by its kind.
use Rattle.std.specs.Prelude.{ℕ, ℤ, Bool, List, [], ◌∷◌, Option, Some, None}
use Rattle.fj_value.specs.Digits.{twos_complement}
use Rattle.fj_value.specs.declared.kind.Kind.{Kind}
use Rattle.fj_value.specs.declared.kind.Kind.TheVariants.{Int4, Int8, Logical, Chars}
use Rattle.fj_value.specs.declared.value.Value.{Value}
use Rattle.fj_value.specs.declared.value.Value.TheVariants as value

-- the integer of an integer kind, and none where the value is undefined or of another type; so for the other kinds
abbrev pub integer_in : Kind → Value → Option ℤ
integer_in Int4 (value.Int n) = Some n
integer_in Int8 (value.Int n) = Some n
integer_in _ _ = None

-- the integers of values of a kind, up to one that is none
abbrev pub with_integer : Option ℤ → List ℤ → List ℤ
with_integer None more = []
with_integer (Some n) more = n ∷ more

abbrev pub integers_in : Kind → List Value → List ℤ
integers_in kind [] = []
integers_in kind (v ∷ vs) = with_integer (integer_in kind v) (integers_in kind vs)

-- the two's complement of the integer
abbrev pub bits_in : Kind → Value → Option ℕ
bits_in Int4 (value.Int n) = Some (twos_complement 32 n)
bits_in Int8 (value.Int n) = Some (twos_complement 64 n)
bits_in _ _ = None

abbrev pub logical_in : Kind → Value → Option Bool
logical_in Logical (value.Log b) = Some b
logical_in _ _ = None

abbrev pub text_in : Kind → Value → Option (List ℕ)
text_in (Chars n) (value.Chars text) = Some text
text_in _ _ = None
