-- The places that prohibitions look at are those that a statement references, defines and specifies (ISO/IEC 1539-1:2004, 9.5.1.4, 16.5.5, 16.5.6).
use Rattle.std.specs.Prelude.{◌≡◌, ◌↔◌, ◌⊎◌, ℕ, List, Some}
use Rattle.std.specs.List.{Contains}
use Rattle.fj_value.specs.declared.place.Place.{Place}
use Rattle.fj_statement.specs.declared.deck.Variable.{Variable}
use Rattle.fj_statement.specs.declared.unit.UnitRef.TheVariants as unit
use Rattle.fj_statement.specs.declared.statement.Transfer.{Transfer}
use Rattle.fj_statement.specs.declared.statement.Statement.{Statement}
use Rattle.fj_statement.specs.declared.statement.Statement.TheVariants as statement
use Rattle.fj_statement.specs.Units.{unit_of}
use Rattle.fj_statement.specs.Naming.{named_places, named_variables}
use Rattle.fj_meaning.specs.State.{State}
use Rattle.fj_meaning.specs.Needs.{need}
use Rattle.fj_meaning_laws.specs.Naming.{IsElement, IsItem, IsInside, References, Specifies, Defines}

-- of READ and WRITE alone
pub data Moves (variables : List Variable) : Statement → Place → Type 0 where
  moves_item : {t : Transfer} {p : Place} → IsItem variables t p → Moves variables (statement.Transfer t) p

pub data Enters (variables : List Variable) : Statement → Place → Type 0 where
  enters_file : {t : Transfer} {p : Place} → IsInside variables t p → Enters variables (statement.Transfer t) p

-- each of the lists has just the places of its relation
pub record IsNeeded (variables : List Variable) (s : State) (st : Statement) (p : Place) : Type 0 where
  pub references : Contains (need variables s st).references p ↔ References variables st p
  pub defines : Contains (need variables s st).defines p ↔ Defines variables st p
  pub specifiers : Contains (need variables s st).specifiers p ↔ Specifies st p
  pub items : Contains (need variables s st).items p ↔ Moves variables st p
  pub internal : Contains (need variables s st).internal p ↔ Enters variables st p

abbrev pub NeedsAreNamed : Type 0
NeedsAreNamed = (variables : List Variable) (s : State) (st : Statement) (p : Place) → IsNeeded variables s st p

-- NEWUNIT= is of OPEN alone
abbrev pub IsOpen : Statement → Type 0
IsOpen (statement.OpenUnit u spec iostat) = Unit {0}
IsOpen st = ⊥

abbrev pub HasNewUnitAsOpen : Statement → Type 0
HasNewUnitAsOpen st = (p : Place) (n : ℕ) → unit_of st ≡ Some (unit.New p n) → IsOpen st

-- each place and each array that stands in a statement is referenced or defined
abbrev pub NamedPlacesAreNeeded : Type 0
NamedPlacesAreNeeded = (variables : List Variable) (st : Statement) (p : Place) → HasNewUnitAsOpen st →
    (Contains (named_places st) p → References variables st p ⊎ Defines variables st p)
    × ((var : ℕ) → Contains (named_variables st) var → IsElement variables var p → References variables st p ⊎ Defines variables st p)
