-- What the unit of a statement names.
use Rattle.std.specs.Prelude.{Bool, true, ◌&&◌, ◌||◌, not, Option, Some, None, is_some, if◌then◌else◌}
use Rattle.fj_modes.specs.Words.{given_and, is_scratch}
use Rattle.fj_modes.specs.declared.specifiers.OpenSpec.{OpenSpec}
use Rattle.fj_value.specs.declared.kind.Kind.{Kind}
use Rattle.fj_value.specs.declared.kind.Kind.TheVariants.{Logical, Chars}
use Rattle.fj_statement.specs.declared.statement.Operand.{Operand}
use Rattle.fj_statement.specs.declared.statement.Operand.TheVariants as operand
use Rattle.fj_statement.specs.declared.unit.InternalFile.TheVariants as file
use Rattle.fj_statement.specs.declared.unit.Subject.{Subject}
use Rattle.fj_statement.specs.declared.unit.Subject.TheVariants as subject
use Rattle.fj_statement.specs.declared.unit.UnitRef.{UnitRef}
use Rattle.fj_statement.specs.declared.unit.UnitRef.TheVariants as unit
use Rattle.fj_syntax.specs.declared.operand.Designator.{Designator}
use Rattle.fj_syntax.specs.declared.written.Subject as asked
use Rattle.fj_syntax.specs.declared.written.Subject.TheVariants as asked_as
use Rattle.fj_syntax.specs.declared.written.Unit as written
use Rattle.fj_syntax.specs.declared.written.Unit.TheVariants as written_as
use Rattle.fj_syntax.specs.declared.written.Transfer.{Transfer}
use Rattle.fj_names.specs.declared.scope.Scope.{Scope}
use Rattle.fj_names.specs.Giving.{◌>>=◌}
use Rattle.fj_names.specs.Operands.{integer_place, variable_meant}

-- a unit of a place, and NEWUNIT=, name an integer (ISO/IEC 1539-1:2004, 9.4.1; ISO/IEC 1539-1:2010, 9.5.6.12)
unfoldable pub unit_meant : Scope → written.Unit → Option UnitRef
unit_meant s written_as.Star = Some unit.Star
unit_meant s (written_as.Number n) = Some (unit.Number n)
unit_meant s (written_as.Place d) = integer_place s d >>= (λ place. Some (unit.Held place 0))
unit_meant s (written_as.New d) = integer_place s d >>= (λ place. Some (unit.New place 0))

-- ---- of READ and WRITE, which may name an internal file (ISO/IEC 1539-1:2004, 9.3)

abbrev pub held : Operand → Option UnitRef
held (operand.One place) = Some (unit.Held place 0)
held _ = None

-- a scalar or element, or all of an array
abbrev pub internal : Operand → Option UnitRef
internal (operand.One place) = Some (unit.Internal (file.One place))
internal (operand.Whole var) = Some (unit.Internal (file.Whole var))
internal _ = None

-- an integer is the number of a unit, and characters are an internal file
abbrev pub unit_in : Kind → Operand → Option UnitRef
unit_in Logical o = None
unit_in (Chars size) o = internal o
unit_in kind o = held o

abbrev pub variable_unit : Scope → Designator → Option UnitRef
variable_unit s d = variable_meant s d >>= (λ m. unit_in m.kind m.operand)

unfoldable pub unit_named : Scope → written.Unit → Option UnitRef
unit_named s (written_as.Place d) = variable_unit s d
unit_named s u = unit_meant s u

-- an internal file has a format, and no position; no record of it stays open, and no transfer is pending
abbrev pub suits_unit : UnitRef → Transfer → Bool
suits_unit (unit.Internal f) t = is_some t.format && not (is_some t.advance || (is_some t.asynchronous || (is_some t.rec || is_some t.pos)))
suits_unit u t = true

unfoldable pub transfer_unit : Scope → Transfer → Option UnitRef
transfer_unit s t = unit_named s t.unit >>= (λ u. if suits_unit u t then Some u else None)

unfoldable pub subject_meant : Scope → asked.Subject → Option Subject
subject_meant s (asked_as.Unit u) = unit_meant s u >>= (λ named. Some (subject.Unit named))
subject_meant s (asked_as.File name) = Some (subject.File name)

-- with NEWUNIT= stands FILE=, or STATUS='SCRATCH' (ISO/IEC 1539-1:2010, 9.5.6.12)
abbrev pub has_file : written.Unit → OpenSpec → Bool
has_file (written_as.New d) spec = is_some spec.file || given_and is_scratch spec.status
has_file u spec = true
