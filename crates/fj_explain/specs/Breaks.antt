-- What is told of a statement that broke a rule.
use Rattle.std.specs.Prelude.{◌≡◌, ℕ, ◌<◌, ◌==◌, ◌&&◌, ◌||◌, Bool, true, false, List, Option, Some, None, IfSome, Result, Ok, Err, slice_get, position, unwrap_or}
use Rattle.std.specs.List.{list_any}
use Rattle.std.specs.declared.alloc.AllocError.{AllocError}
use Rattle.fj_value.specs.declared.place.Place.{Place}
use Rattle.fj_modes.specs.declared.asked.Wanted.{Wanted}
use Rattle.fj_statement.specs.declared.unit.InternalFile.TheVariants as file
use Rattle.fj_statement.specs.declared.unit.UnitRef.{UnitRef}
use Rattle.fj_statement.specs.declared.unit.UnitRef.TheVariants as unit
use Rattle.fj_statement.specs.declared.unit.Subject.{Subject}
use Rattle.fj_statement.specs.declared.unit.Subject.TheVariants as subject
use Rattle.fj_statement.specs.declared.statement.Operand.{Operand}
use Rattle.fj_statement.specs.declared.statement.Operand.TheVariants.{Literal, One, Whole}
use Rattle.fj_statement.specs.declared.statement.Transfer.{Transfer}
use Rattle.fj_statement.specs.declared.statement.Statement.{Statement}
use Rattle.fj_statement.specs.declared.statement.Statement.TheVariants as statement
use Rattle.fj_statement.specs.declared.deck.Deck.{Deck}
use Rattle.fj_statement.specs.declared.deck.Lined.{Lined}
use Rattle.fj_statement.specs.Sound.{members_of}
use Rattle.fj_deck.specs.Deck.{IsDeck}
use Rattle.fj_explain.specs.declared.broken.Broken.{Broken}

-- ---- the variable is named by a part of a statement

abbrev pub given_is_of : ℕ → Option Place → Bool
given_is_of var None = false
given_is_of var (Some place) = place.var == var

abbrev pub operand_is_of : ℕ → Operand → Bool
operand_is_of var (Literal kind value) = false
operand_is_of var (One place) = place.var == var
operand_is_of var (Whole whole) = whole == var

abbrev pub value_is_of : ℕ → Option Operand → Bool
value_is_of var None = false
value_is_of var (Some o) = operand_is_of var o

-- by its place, NEWUNIT= or an internal file
abbrev pub unit_is_of : ℕ → UnitRef → Bool
unit_is_of var unit.Star = false
unit_is_of var (unit.Number n) = false
unit_is_of var (unit.Held place n) = place.var == var
unit_is_of var (unit.New place n) = place.var == var
unit_is_of var (unit.Internal (file.One place)) = place.var == var
unit_is_of var (unit.Internal (file.Whole whole)) = whole == var

abbrev pub subject_is_of : ℕ → Subject → Bool
subject_is_of var (subject.Unit u) = unit_is_of var u
subject_is_of var (subject.File name) = false

abbrev pub asks_into : ℕ → List Wanted → Bool
asks_into var asked = list_any (λ (w : Wanted). w.place.var == var) asked

-- among the items, in the group or by SIZE=
abbrev pub transfers : ℕ → Transfer → Bool
transfers var t = list_any (operand_is_of var) t.items || (list_any (λ v. v == var) (members_of t.control) || given_is_of var t.size)

-- a transfer of the variable with ASYNCHRONOUS='YES'
abbrev pub is_later : ℕ → Statement → Bool
is_later var (statement.Transfer t) = unwrap_or t.asynchronous false && transfers var t
is_later var _ = false

abbrev pub transfer_names : ℕ → Transfer → Bool
transfer_names var t =
    unit_is_of var t.unit || (transfers var t || (value_is_of var t.rec || (value_is_of var t.pos || (given_is_of var t.id || given_is_of var t.iostat))))

abbrev pub names : ℕ → Statement → Bool
names var (statement.Assign to from) = operand_is_of var to || operand_is_of var from
names var (statement.OpenUnit u spec iostat) = unit_is_of var u || given_is_of var iostat
names var (statement.CloseUnit u keep iostat) = unit_is_of var u || given_is_of var iostat
names var (statement.WaitFor u id iostat) = unit_is_of var u || (value_is_of var id || given_is_of var iostat)
names var (statement.Move how u iostat) = unit_is_of var u || given_is_of var iostat
names var (statement.Inquire about asked id iostat _) = subject_is_of var about || (asks_into var asked || (value_is_of var id || given_is_of var iostat))
names var (statement.Transfer t) = transfer_names var t
names var statement.End = false

-- ---- what is told

-- a statement before the one of this number stands on the line: a transfer with ASYNCHRONOUS='YES' of a variable that the latter names
pub record IsEarlier (statements : List Lined) (at : ℕ) (line : ℕ) : Type 0 where
  pub from : ℕ
  pub before : from < at
  pub lined : Lined
  pub stands : slice_get statements from ≡ Some lined
  pub line_is : lined.line ≡ line
  pub stated : Lined
  pub behind : slice_get statements at ≡ Some stated
  pub var : ℕ
  pub is_later : is_later var lined.what ≡ true
  pub is_named : names var stated.what ≡ true

abbrev pub is_on : ℕ → Lined → Bool
is_on line l = l.line == line

-- of the statement of a deck on this line; the transfer that is told is an earlier one
pub record IsTold (text : List ℕ) (line : ℕ) (transfer : Option ℕ) : Type 0 where
  pub deck : Deck
  pub is : IsDeck text deck
  pub at : ℕ
  pub stands : position (is_on line) deck.statements ≡ Some at
  pub earlier : IfSome transfer (IsEarlier deck.statements at)

-- nothing of a text whose deck has no statement on the line, or that is no deck; and memory alone may be wanting
abbrev pub Breaks : List ℕ → ℕ → Result (Option Broken) AllocError → Type 0
Breaks text line (Ok None) = (deck : Deck) → IsDeck text deck → position (is_on line) deck.statements ≡ None
Breaks text line (Ok (Some said)) = IsTold text line said.transfer
Breaks text line (Err error) = Unit {0}
