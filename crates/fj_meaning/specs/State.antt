-- What the execution of a deck has reached: variables, pending transfers, connected units, files and output.
use Rattle.std.specs.Prelude.{ℕ, ◌==◌, not, nat_lt, Bool, true, false, List, [], ◌∷◌, ◌++◌, map, filter, replicate, Option, Some, None, if◌then◌else◌}
use Rattle.fj_value.specs.declared.place.Place.{Place}
use Rattle.fj_value.specs.declared.value.Cell.{Cell}
use Rattle.fj_value.specs.declared.value.Value.TheVariants.{Undefined}
use Rattle.fj_value.specs.declared.condition.Condition.{Condition}
use Rattle.fj_value.specs.declared.condition.Condition.TheVariants.{Fine}
use Rattle.fj_statement.specs.declared.deck.Variable.{Variable}
use Rattle.fj_statement.specs.Units.{first_new_code}
use Rattle.fj_connect.specs.Connection.{Connection}
use Rattle.fj_connect.specs.Positions.{ended}
use Rattle.std.specs.Str.{bytes_eq}
pub use Rattle.fj_bay.specs.Halt.{halts}
use Rattle.fj_store.specs.Variables.{Variables}

-- ---- files

-- by name, the bytes of the file, or none
abbrev pub Files : Type 0
Files = List ℕ → Option (List ℕ)

abbrev pub with_file : List ℕ → List ℕ → Files → Files
with_file name bytes files = λ other. if bytes_eq other name then Some bytes else files other

abbrev pub without_file : List ℕ → Files → Files
without_file name files = λ other. if bytes_eq other name then None else files other

-- ---- the state

-- A pending transfer, with what became of it when it was carried out: the cells and SIZE= of an input get it at the telling.
pub record Entry : Type 0 where
  pub id : ℕ
  pub unit : ℕ
  pub input : Bool
  -- of its items or its group, and of an input SIZE=
  pub places : List Place
  pub cells : List Cell
  pub size : Option Place
  pub count : Option ℕ
  pub condition : Condition

-- A connected unit, by the code of its number. Where it is halted, with the cause, its pending transfers are skipped.
pub record Unit : Type 0 where
  pub number : ℕ
  pub connection : Connection
  pub halt : Option Condition

-- what was written on unit `*`: all characters, how many of them are of the record that is open, and whether one is, which may have no character
pub record Output : Type 0 where
  pub text : List ℕ
  pub begun : ℕ
  pub is_open : Bool

-- a transfer that was told: at which line, of which unit, under which identifier, and its condition
pub record Tell : Type 0 where
  pub line : ℕ
  pub unit : ℕ
  pub id : ℕ
  pub condition : Condition

pub record State : Type 0 where
  pub vars : Variables
  -- in ascending order of identifiers
  pub book : List Entry
  -- in ascending order of units
  pub units : List Unit
  -- the files that no unit has
  pub files : Files
  pub output : Output
  -- the next identifier
  pub next : ℕ
  -- the code of the number that NEWUNIT= gives next
  pub new_unit : ℕ
  pub tells : List Tell

abbrev pub is_fine : Condition → Bool
is_fine Fine = true
is_fine _ = false

-- ---- units

abbrev pub found : List Unit → ℕ → Option Unit
found [] number = None
found (u ∷ us) number = if u.number == number then Some u else found us number

-- the unit of that number becomes this one
abbrev pub with_unit : Unit → List Unit → List Unit
with_unit new us = map (λ u. if u.number == new.number then new else u) us

abbrev pub inserted : Unit → List Unit → List Unit
inserted new us = filter (λ u. nat_lt u.number new.number) us ++ new ∷ filter (λ u. nat_lt new.number u.number) us

abbrev pub without_unit : ℕ → List Unit → List Unit
without_unit number us = filter (λ u. not (u.number == number)) us

-- the unit has another connection
abbrev pub with_connection : State → Unit → Connection → State
with_connection s u c = record s { units = with_unit (record u { connection = c }) s.units }

-- a connection is left: its open record is ended, and its file is kept or removed
abbrev pub left : Connection → Bool → Files → Files
left c keep files = if keep then with_file c.name (ended c).bytes files else without_file c.name files

abbrev pub disconnected : State → Unit → Bool → State
disconnected s u keep = record s { units = without_unit u.number s.units; files = left u.connection keep s.files }

-- without STATUS= a scratch file is removed, and any other is kept
abbrev pub keeps : Unit → Bool
keeps u = not u.connection.modes.scratch

abbrev pub files_closed : List Unit → Files → Files
files_closed [] files = files
files_closed (u ∷ us) files = files_closed us (left u.connection (keeps u) files)

abbrev pub all_closed : State → State
all_closed s = record s { units = []; files = files_closed s.units s.files }

-- ---- the start

abbrev pub elements : Variable → ℕ
elements v = if v.count == 0 then 1 else v.count

abbrev pub start : List Variable → Files → State
start variables files = record {
  vars = map (λ (v : Variable). replicate (elements v) Undefined) variables;
  book = [];
  units = [];
  files = files;
  output = record { text = []; begun = 0; is_open = false };
  next = 1;
  new_unit = first_new_code;
  tells = [];
}
