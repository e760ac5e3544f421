-- Units as statements name them, by their numbers when a statement begins.
use Rattle.std.specs.Prelude.{ℕ, ◌-◌, ℤ, pos, negsuc, not, nat_lt, Bool, false, Option, Some, None, if◌then◌else◌}
use Rattle.std.specs.Option.{option_map_or}
use Rattle.fj_value.specs.declared.place.Place.{Place}
use Rattle.fj_value.specs.declared.value.Value.{Value}
use Rattle.fj_value.specs.declared.value.Value.TheVariants as value
use Rattle.fj_statement.specs.declared.unit.InternalFile.{InternalFile}
use Rattle.fj_statement.specs.declared.unit.UnitRef.{UnitRef}
use Rattle.fj_statement.specs.declared.unit.UnitRef.TheVariants as unit
use Rattle.fj_statement.specs.declared.unit.Subject.{Subject}
use Rattle.fj_statement.specs.declared.unit.Subject.TheVariants as subject
use Rattle.fj_statement.specs.declared.statement.Statement.{Statement}
use Rattle.fj_statement.specs.declared.statement.Statement.TheVariants as statement

-- ---- numbers as codes

-- the code of a number that no unit has
abbrev pub no_unit : ℕ
no_unit = 4294967295

-- one below 0 stands as 4,294,967,296 less its amount, and one of more than 32 bits as a number that no unit has
abbrev pub number_to_code : ℤ → ℕ
number_to_code (pos n) = if nat_lt n 2147483648 then n else no_unit
number_to_code (negsuc n) = if nat_lt n 2147483648 then 4294967295 - n else no_unit

abbrev pub number_from_code : ℕ → ℤ
number_from_code n = if nat_lt n 2147483648 then pos n else negsuc (4294967295 - n)

-- NEWUNIT= gives -10, -11, .. (own)
abbrev pub first_new_code : ℕ
first_new_code = 4294967286

abbrev pub new_code : ℕ → ℕ
new_code code = code - 1

-- ---- what a unit names

-- the number of a unit; `*` and an internal file have none
abbrev pub number_of : UnitRef → Option ℕ
number_of unit.Star = None
number_of (unit.Number n) = Some n
number_of (unit.Held place n) = Some n
number_of (unit.New place n) = Some n
number_of (unit.Internal file) = None

-- the place whose value is its number
abbrev pub place_held : UnitRef → Option Place
place_held (unit.Held place n) = Some place
place_held _ = None

-- the place that NEWUNIT= names
abbrev pub place_new : UnitRef → Option Place
place_new (unit.New place n) = Some place
place_new _ = None

-- the internal file that it is
abbrev pub internal_of : UnitRef → Option InternalFile
internal_of (unit.Internal file) = Some file
internal_of _ = None

-- the number is not one from 0 to 2,147,483,647, and NEWUNIT= does not give it
abbrev pub is_outside : UnitRef → Bool
is_outside unit.Star = false
is_outside (unit.Number n) = not (nat_lt n 2147483648)
is_outside (unit.Held place n) = not (nat_lt n 2147483648)
is_outside (unit.New place n) = false
is_outside (unit.Internal file) = false

-- ---- the number that a unit has when its statement begins

abbrev pub number_in : Value → ℕ
number_in (value.Int n) = number_to_code n
number_in _ = no_unit

-- by the value of each place, and the number that NEWUNIT= gives next
abbrev pub number_due : (Place → Value) → ℕ → UnitRef → ℕ
number_due at new (unit.Held place n) = number_in (at place)
number_due at new (unit.New place n) = new
number_due at new _ = 0

abbrev pub numbered : ℕ → UnitRef → UnitRef
numbered number (unit.Held place n) = unit.Held place number
numbered number (unit.New place n) = unit.New place number
numbered number u = u

-- the unit of a statement
abbrev pub unit_of : Statement → Option UnitRef
unit_of (statement.Assign to from) = None
unit_of (statement.OpenUnit u spec iostat) = Some u
unit_of (statement.CloseUnit u keep iostat) = Some u
unit_of (statement.WaitFor u id iostat) = Some u
unit_of (statement.Move how u iostat) = Some u
unit_of (statement.Inquire (subject.Unit u) asked id iostat _) = Some u
unit_of (statement.Inquire (subject.File name) asked id iostat _) = None
unit_of (statement.Transfer t) = Some t.unit
unit_of statement.End = None

-- the statement, its unit having this number
abbrev pub with_number : ℕ → Statement → Statement
with_number n (statement.Assign to from) = statement.Assign to from
with_number n (statement.OpenUnit u spec iostat) = statement.OpenUnit (numbered n u) spec iostat
with_number n (statement.CloseUnit u keep iostat) = statement.CloseUnit (numbered n u) keep iostat
with_number n (statement.WaitFor u id iostat) = statement.WaitFor (numbered n u) id iostat
with_number n (statement.Move how u iostat) = statement.Move how (numbered n u) iostat
with_number n (statement.Inquire (subject.Unit u) asked id iostat done) = statement.Inquire (subject.Unit (numbered n u)) asked id iostat done
with_number n (statement.Inquire (subject.File name) asked id iostat done) = statement.Inquire (subject.File name) asked id iostat done
with_number n (statement.Transfer t) = statement.Transfer (record t { unit = numbered n t.unit })
with_number n statement.End = statement.End

-- INQUIRE to which it is known whether the transfers that PENDING= asks about, of the unit of that number, are done: by FILE= it asks about that unit
abbrev pub asks_unit : ℕ → Subject → Subject
asks_unit number (subject.Unit u) = subject.Unit u
asks_unit number (subject.File name) = subject.Unit (unit.Number number)

abbrev pub looked : ℕ → Bool → Statement → Statement
looked number is_done (statement.Inquire about asked id iostat _) = statement.Inquire (asks_unit number about) asked id iostat (Some is_done)
looked number is_done st = st

-- the number that stands in it; 0 where its unit is not of a place
abbrev pub held_number : UnitRef → ℕ
held_number (unit.Held place n) = n
held_number (unit.New place n) = n
held_number _ = 0

abbrev pub number_held : Statement → ℕ
number_held st = option_map_or held_number (unit_of st) 0

-- a statement as it begins
abbrev pub begun : (Place → Value) → ℕ → Statement → Statement
begun at new st = with_number (option_map_or (number_due at new) (unit_of st) 0) st
