-- The places and variables that a statement names, and what the layers above take from a sound statement.
use Rattle.std.specs.Prelude.{◌≡◌, ℕ, ◌<◌, ◌≤◌, List, [], ◌∷◌, ◌++◌, length, map, All, Option, Some, None, slice_get}
use Rattle.std.specs.List.{flat_map, sum_by}
use Rattle.fj_value.specs.declared.kind.Kind.{Kind}
use Rattle.fj_value.specs.declared.place.Place.{Place}
use Rattle.fj_modes.specs.declared.asked.Wanted.{Wanted}
use Rattle.fj_statement.specs.declared.deck.Variable.{Variable}
use Rattle.fj_statement.specs.declared.unit.UnitRef.{UnitRef}
use Rattle.fj_statement.specs.declared.unit.Subject.{Subject}
use Rattle.fj_statement.specs.declared.unit.Subject.TheVariants as subject
use Rattle.fj_statement.specs.Units.{place_held, place_new}
use Rattle.fj_statement.specs.declared.statement.Operand.{Operand}
use Rattle.fj_statement.specs.declared.statement.Operand.TheVariants as operand
use Rattle.fj_statement.specs.declared.statement.Transfer.{Transfer}
use Rattle.fj_statement.specs.declared.statement.Statement.{Statement}
use Rattle.fj_statement.specs.declared.statement.Statement.TheVariants as statement
use Rattle.fj_statement.specs.Sound.{Variables, AreWithin, IsPlace, IsSoundStatement, AreMembers, IsTransfer, members_of, places_at, places_of}

abbrev pub if_given : {A : Type 0} → Option A → List A
if_given None = []
if_given (Some x) = x ∷ []

-- ---- places

-- the element or scalar of an operand
abbrev pub place_of : Operand → List Place
place_of (operand.One place) = place ∷ []
place_of o = []

abbrev pub place_given : Option Operand → List Place
place_given None = []
place_given (Some o) = place_of o

abbrev pub transfer_places : Transfer → List Place
transfer_places t = flat_map place_of t.items ++ place_given t.rec ++ place_given t.pos ++ if_given t.id ++ if_given t.size ++ if_given t.iostat

-- of a unit of a place, or of NEWUNIT=
abbrev pub unit_places : UnitRef → List Place
unit_places u = if_given (place_held u) ++ if_given (place_new u)

abbrev pub subject_places : Subject → List Place
subject_places (subject.Unit u) = unit_places u
subject_places (subject.File name) = []

-- the elements and scalars that stand in a statement
abbrev pub named_places : Statement → List Place
named_places (statement.Assign to from) = place_of to ++ place_of from
named_places (statement.OpenUnit u spec iostat) = unit_places u ++ if_given iostat
named_places (statement.CloseUnit u keep iostat) = unit_places u ++ if_given iostat
named_places (statement.WaitFor u id iostat) = unit_places u ++ place_given id ++ if_given iostat
named_places (statement.Move how u iostat) = unit_places u ++ if_given iostat
named_places (statement.Inquire about asked id iostat _) = subject_places about ++ map (λ (w : Wanted). w.place) asked ++ place_given id ++ if_given iostat
named_places (statement.Transfer t) = unit_places t.unit ++ transfer_places t
named_places statement.End = []

-- ---- whole variables

-- the array of an operand
abbrev pub array_of : Operand → List ℕ
array_of (operand.Whole var) = var ∷ []
array_of o = []

-- the arrays and members of groups that stand in a statement
abbrev pub named_variables : Statement → List ℕ
named_variables (statement.Assign to from) = array_of to ++ array_of from
named_variables (statement.Transfer t) = flat_map array_of t.items ++ members_of t.control
named_variables s = []

-- ---- elements

-- how many elements an item is
abbrev pub elements_of : Variables → Operand → ℕ
elements_of vs (operand.Whole var) = places_at vs var
elements_of vs o = 1

-- ---- laws

abbrev pub IsSomePlace : Variables → Place → Type 0
IsSomePlace vs place = (kind : Kind) × IsPlace vs place kind

-- each place is one of a variable, with an index from 1 to its number of places
abbrev pub PlacesAreThere : Type 0
PlacesAreThere = (vs : Variables) (s : Statement) → IsSoundStatement vs s → All (IsSomePlace vs) (named_places s)

-- each variable is there
abbrev pub VariablesAreThere : Type 0
VariablesAreThere = (vs : Variables) (s : Statement) → IsSoundStatement vs s → All (λ var. var < length vs) (named_variables s)

-- READ and WRITE transfer no more than 1,000,000 elements
abbrev pub ElementsAreFew : Type 0
ElementsAreFew = (vs : Variables) (t : Transfer) → IsTransfer vs t → sum_by (elements_of vs) t.items ≤ 1000000

-- and no variable has more places than all of them together
abbrev pub PlacesAreFew : Type 0
PlacesAreFew = (vs : Variables) (var : ℕ) (v : Variable) → AreWithin vs → slice_get vs var ≡ Some v → places_of v ≤ 1000000

-- 1,000 variables are few enough for a group, with one of them again and again
abbrev pub MembersAreFew : Type 0
MembersAreFew = (vs : Variables) (vars : List ℕ) → AreWithin vs → All (λ var. var < length vs) vars → length vars ≤ 1000 → AreMembers vs vars
