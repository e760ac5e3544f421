-- The unit that INQUIRE asks about, where the file is connected to one (ISO/IEC 1539-1:2004, 9.9).
use Rattle.std.specs.Prelude.{◌≡◌, ℕ, List, Option}
use Rattle.fj_statement.specs.declared.unit.Subject.{Subject}
use Rattle.fj_statement.specs.declared.unit.Subject.TheVariants as subject
use Rattle.fj_statement.specs.declared.statement.Statement.{Statement}
use Rattle.fj_statement.specs.declared.statement.Statement.TheVariants as statement
use Rattle.fj_meaning.specs.Needs.{number_of}

-- the number of the unit, or of that which the file is connected to
abbrev pub unit_in : Option ℕ → Subject → Option ℕ
unit_in named (subject.Unit u) = number_of u
unit_in named (subject.File name) = named

-- the file that is asked about is connected to this unit; of any other subject and statement nothing is said
abbrev pub IsUnitOf : Option ℕ → (List ℕ → Option ℕ) → Subject → Type 0
IsUnitOf named unit_named (subject.Unit u) = Unit {0}
IsUnitOf named unit_named (subject.File name) = named ≡ unit_named name

abbrev pub IsUnitAsked : Option ℕ → (List ℕ → Option ℕ) → Statement → Type 0
IsUnitAsked named unit_named (statement.Inquire about asked id iostat _) = IsUnitOf named unit_named about
IsUnitAsked named unit_named st = Unit {0}
