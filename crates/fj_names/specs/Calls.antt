-- What assignments, OPEN, CLOSE, WAIT, the motions and INQUIRE mean.
use Rattle.std.specs.Prelude.{Bool, true, false, ◌&&◌, not, Option, Some, None, if◌then◌else◌}
use Rattle.fj_value.specs.declared.kind.Kind.{Kind}
use Rattle.fj_value.specs.declared.kind.Kind.TheVariants.{Int4, Int8, Logical, Chars}
use Rattle.fj_modes.specs.declared.asked.Question.{Question}
use Rattle.fj_modes.specs.declared.asked.Question.TheVariants.{Exist, Opened, Number, Named, Name, Access, Form, Recl, Nextrec, Pos, Size, Blank, Delim, Pad, Decimal, Sign, Action, Asynchronous, Pending}
use Rattle.fj_modes.specs.declared.asked.Wanted.{Wanted}
use Rattle.fj_statement.specs.declared.statement.Operand.{Operand}
use Rattle.fj_statement.specs.declared.statement.Operand.TheVariants as operand
use Rattle.fj_statement.specs.declared.statement.Statement.{Statement}
use Rattle.fj_statement.specs.declared.statement.Statement.TheVariants as statement
use Rattle.fj_syntax.specs.declared.written.Assignment.{Assignment}
use Rattle.fj_modes.specs.declared.specifiers.OpenSpec.{OpenSpec}
use Rattle.fj_modes.specs.declared.motion.Motion.{Motion}
use Rattle.fj_syntax.specs.declared.operand.Operand.{Operand as Given}
use Rattle.fj_syntax.specs.declared.written.OnUnit.{OnUnit}
use Rattle.fj_syntax.specs.declared.written.Asking.{Asking}
use Rattle.fj_syntax.specs.declared.written.Inquire.{Inquire}
use Rattle.fj_names.specs.declared.operand.Meant.{Meant}
use Rattle.fj_names.specs.declared.scope.Scope.{Scope}
use Rattle.fj_names.specs.Giving.{◌>>=◌, optional, each}
use Rattle.fj_names.specs.Operands.{is_integer, is_whole, placed, integer_place, variable_meant, meant, integer_operand}
use Rattle.fj_names.specs.Units.{has_file, subject_meant, unit_meant}

-- ---- assignments

-- a variable takes a value of its kind, and characters of any length
abbrev pub takes : Kind → Kind → Bool
takes Int4 Int4 = true
takes Int8 Int8 = true
takes Logical Logical = true
takes (Chars to) (Chars from) = true
takes to from = false

-- a literal of its class and range: INTEGER(8) has the numbers of INTEGER(4) too
abbrev pub takes_literal : Kind → Kind → Bool
takes_literal Int8 Int4 = true
takes_literal to from = takes to from

-- A whole array gets a literal, and is got from by none.
abbrev pub goes_from : Operand → Meant → Meant → Bool
goes_from (operand.Literal kind value) to from = takes_literal to.kind from.kind
goes_from (operand.One place) to from = not (is_whole to.operand) && takes to.kind from.kind
goes_from (operand.Whole var) to from = false

abbrev pub goes_to : Meant → Meant → Bool
goes_to to from = goes_from from.operand to from

unfoldable pub assigned : Scope → Assignment → Option Statement
assigned s a = do
  to ← variable_meant s a.to
  from ← meant s a.from
  if goes_to to from then Some (statement.Assign to.operand from.operand) else None

-- ---- files

unfoldable pub opened : Scope → OnUnit OpenSpec → Option Statement
opened s o = do
  u ← unit_meant s o.unit
  i ← optional (integer_place s) o.iostat
  if has_file o.unit o.what then Some (statement.OpenUnit u o.what i) else None

unfoldable pub closed : Scope → OnUnit (Option Bool) → Option Statement
closed s c = do
  u ← unit_meant s c.unit
  i ← optional (integer_place s) c.iostat
  Some (statement.CloseUnit u c.what i)

unfoldable pub awaited : Scope → OnUnit (Option Given) → Option Statement
awaited s w = do
  u ← unit_meant s w.unit
  id ← optional (integer_operand s) w.what
  i ← optional (integer_place s) w.iostat
  Some (statement.WaitFor u id i)

unfoldable pub moved : Scope → OnUnit Motion → Option Statement
moved s m = do
  u ← unit_meant s m.unit
  i ← optional (integer_place s) m.iostat
  Some (statement.Move m.what u i)

-- ---- INQUIRE

abbrev pub is_logical : Kind → Bool
is_logical Logical = true
is_logical kind = false

abbrev pub is_characters : Kind → Bool
is_characters (Chars n) = true
is_characters kind = false

-- truth values go to logicals, numbers to integers, words to characters
abbrev pub suits : Question → Kind → Bool
suits Exist kind = is_logical kind
suits Opened kind = is_logical kind
suits Named kind = is_logical kind
suits Pending kind = is_logical kind
suits Number kind = is_integer kind
suits Recl kind = is_integer kind
suits Nextrec kind = is_integer kind
suits Pos kind = is_integer kind
suits Size kind = is_integer kind
suits Name kind = is_characters kind
suits Access kind = is_characters kind
suits Form kind = is_characters kind
suits Blank kind = is_characters kind
suits Delim kind = is_characters kind
suits Pad kind = is_characters kind
suits Decimal kind = is_characters kind
suits Sign kind = is_characters kind
suits Action kind = is_characters kind
suits Asynchronous kind = is_characters kind

unfoldable pub wanted : Scope → Asking → Option Wanted
wanted s a = do
  p ← placed s a.place
  if suits a.what p.kind then Some (record { what = a.what; place = p.place; kind = p.kind }) else None

unfoldable pub inquired : Scope → Inquire → Option Statement
inquired s i = do
  about ← subject_meant s i.about
  asked ← each (wanted s) i.asked
  id ← optional (integer_operand s) i.id
  iostat ← optional (integer_place s) i.iostat
  Some (statement.Inquire about asked id iostat None)
