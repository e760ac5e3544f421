-- Values as the bytes of unformatted records (ISO/IEC 1539-1:2004, 9.1.2; the layout is this library's own). An INTEGER
-- is its bytes in two's complement, the least first, a LOGICAL a word of four bytes, a CHARACTER its characters.
use Rattle.std.specs.Prelude.{◌≡◌, ℕ, ◌==◌, List, [], length, not, if◌then◌else◌}
use Rattle.std.specs.Int.{w32, w64, to_le_bytes, from_le_bytes, cast_signed, cast_unsigned}
use Rattle.fj_value.specs.Kind.{IsOfKind, fits_bits}
use Rattle.fj_value.specs.declared.kind.Kind.{Kind}
use Rattle.fj_value.specs.declared.kind.Kind.TheVariants.{Int4, Int8, Logical, Chars}
use Rattle.fj_value.specs.declared.value.Value.{Value}
use Rattle.fj_value.specs.declared.value.Value.TheVariants as value

-- how many bytes a value of a kind takes
abbrev pub stored_width : Kind → ℕ
stored_width Int4 = 4
stored_width Int8 = 8
stored_width Logical = 4
stored_width (Chars n) = n

-- the bytes of a value of a kind; a value of another type has none, nor has a number that 32 bits do not have for INTEGER(4)
abbrev pub stored : Kind → Value → List ℕ
stored Int4 (value.Int n) = if fits_bits 32 n then to_le_bytes w32 (cast_unsigned w32 n) else []
stored Int8 (value.Int n) = to_le_bytes w64 (cast_unsigned w64 n)
stored Logical (value.Log b) = to_le_bytes w32 (if b then 1 else 0)
stored (Chars n) (value.Chars text) = text
stored _ _ = []

-- the value of a kind that bytes are; a LOGICAL is true where its word is any other than 0
abbrev pub value_of : Kind → List ℕ → Value
value_of Int4 bytes = value.Int (cast_signed w32 (from_le_bytes w32 bytes))
value_of Int8 bytes = value.Int (cast_signed w64 (from_le_bytes w64 bytes))
value_of Logical bytes = value.Log (not (from_le_bytes w32 bytes == 0))
value_of (Chars n) bytes = value.Chars bytes

-- every value of a kind takes the bytes of its kind, and comes back from them
abbrev pub ComeBack : Type 0
ComeBack = (kind : Kind) (value : Value) → IsOfKind kind value → (length (stored kind value) ≡ stored_width kind) × (value_of kind (stored kind value) ≡ value)
