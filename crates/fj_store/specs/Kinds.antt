-- The kinds of variables, and values as their kinds have them.
use Rattle.std.specs.Prelude.{ℕ, ◌==◌, Bool, true, false, List, length, slice_get, unwrap_or, if◌then◌else◌}
use Rattle.fj_value.specs.Kind.{fits_bits}
use Rattle.fj_value.specs.declared.kind.Kind.{Kind}
use Rattle.fj_value.specs.declared.kind.Kind.TheVariants.{Int4, Int8, Logical, Chars}
use Rattle.fj_value.specs.declared.value.Value.{Value}
use Rattle.fj_value.specs.declared.value.Value.TheVariants as value

-- the kind of a variable
abbrev pub kind_at : List Kind → ℕ → Kind
kind_at kinds var = unwrap_or (slice_get kinds var) Logical

-- whether a value is of a kind
abbrev pub is_of_kind : Kind → Value → Bool
is_of_kind Int4 (value.Int n) = fits_bits 32 n
is_of_kind Int8 (value.Int n) = fits_bits 64 n
is_of_kind Logical (value.Log b) = true
is_of_kind (Chars n) (value.Chars text) = length text == n
is_of_kind _ _ = false

-- a value as a variable of a kind has it: one of another kind leaves the variable undefined
abbrev pub of_kind : Kind → Value → Value
of_kind kind v = if is_of_kind kind v then v else value.Undefined
