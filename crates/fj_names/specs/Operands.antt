-- What designators and operands mean.
use Rattle.std.specs.Prelude.{ℕ, Bool, true, false, ◌&&◌, ◌==◌, not, nat_le, length, Option, Some, None, is_some, if◌then◌else◌, ℤ, pos, ◌-ℤ◌}
use Rattle.fj_value.specs.Kind.{integer_bits, fits_bits}
use Rattle.fj_value.specs.declared.kind.Kind.{Kind}
use Rattle.fj_value.specs.declared.kind.Kind.TheVariants.{Int4, Int8, Logical, Chars}
use Rattle.fj_value.specs.declared.place.Place.{Place}
use Rattle.fj_value.specs.declared.value.Value.{Value}
use Rattle.fj_value.specs.declared.value.Value.TheVariants as value
use Rattle.fj_statement.specs.declared.statement.Operand.{Operand}
use Rattle.fj_statement.specs.declared.statement.Operand.TheVariants as operand
use Rattle.fj_syntax.specs.declared.token.Sign.{Sign}
use Rattle.fj_syntax.specs.declared.token.Sign.TheVariants as sign
use Rattle.fj_syntax.specs.declared.operand.Designator.{Designator}
use Rattle.fj_syntax.specs.declared.operand.Operand as written
use Rattle.fj_syntax.specs.declared.operand.Operand.TheVariants as written_as
use Rattle.fj_names.specs.declared.designator.Placed.{Placed}
use Rattle.fj_names.specs.declared.operand.Meant.{Meant}
use Rattle.fj_names.specs.declared.scope.Found.{Found}
use Rattle.fj_names.specs.declared.scope.Scope.{Scope}
use Rattle.fj_names.specs.Giving.{◌>>=◌}
use Rattle.fj_names.specs.Scope.{found}

-- ---- places

-- the index of an element by its subscript, from 1 to the count; 1 of a scalar, on which none stands
abbrev pub index_in : ℕ → Option ℕ → Option ℕ
index_in count None = if count == 0 then Some 1 else None
index_in count (Some n) = if nat_le 1 n && nat_le n count then Some n else None

-- the element or scalar that is designated
unfoldable pub placed : Scope → Designator → Option Placed
placed s d = do
  f ← found s d.name
  i ← index_in f.count d.number
  Some (record { place = record { var = f.var; index = i }; kind = f.kind })

abbrev pub is_integer : Kind → Bool
is_integer kind = is_some (integer_bits kind)

-- of an integer kind
unfoldable pub integer_place : Scope → Designator → Option Place
integer_place s d = do
  p ← placed s d
  if is_integer p.kind then Some p.place else None

-- ---- literals

abbrev pub signed : Sign → ℕ → ℤ
signed sign.Minus amount = pos 0 -ℤ pos amount
signed _ amount = pos amount

-- INTEGER(4) where it fits, else INTEGER(8) where it fits
abbrev pub number_kind : ℤ → Option Kind
number_kind n = if fits_bits 32 n then Some Int4 else (if fits_bits 64 n then Some Int8 else None)

abbrev pub literal : Kind → Value → Meant
literal kind v = record { operand = operand.Literal kind v; kind = kind; count = 1 }

unfoldable pub number : ℤ → Option Meant
number n = number_kind n >>= (λ kind. Some (literal kind (value.Int n)))

-- ---- operands

abbrev pub element : Found → ℕ → Meant
element f i = record { operand = operand.One (record { var = f.var; index = i }); kind = f.kind; count = 1 }

abbrev pub whole : Found → Meant
whole f = record { operand = operand.Whole f.var; kind = f.kind; count = f.count }

-- a whole array where no subscript stands on one, else the element or scalar
abbrev pub part : Found → Option ℕ → Option Meant
part f None = Some (if f.count == 0 then element f 1 else whole f)
part f (Some n) = index_in f.count (Some n) >>= (λ i. Some (element f i))

unfoldable pub variable_meant : Scope → Designator → Option Meant
variable_meant s d = found s d.name >>= (λ f. part f d.number)

-- an operand with its kind, and how many elements it is
unfoldable pub meant : Scope → written.Operand → Option Meant
meant s (written_as.Number sign amount) = number (signed sign amount)
meant s (written_as.Truth truth) = Some (literal Logical (value.Log truth))
meant s (written_as.Literal text) = Some (literal (Chars (length text)) (value.Chars text))
meant s (written_as.Place d) = variable_meant s d

abbrev pub is_whole : Operand → Bool
is_whole (operand.Whole var) = true
is_whole _ = false

-- an integer literal or integer place
unfoldable pub integer_operand : Scope → written.Operand → Option Operand
integer_operand s o = do
  m ← meant s o
  if is_integer m.kind && not (is_whole m.operand) then Some m.operand else None
