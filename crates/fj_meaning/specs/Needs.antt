-- The places that a statement references and defines.
use Rattle.std.specs.Prelude.{ℕ, ℤ, ◌++◌, List, [], ◌∷◌, map, Option, Some, None, option_and_then, if◌then◌else◌}
use Rattle.std.specs.List.{flat_map}
use Rattle.std.specs.Str.{bytes_eq}
use Rattle.fj_value.specs.declared.place.Place.{Place}
use Rattle.fj_modes.specs.declared.asked.Wanted.{Wanted}
pub use Rattle.fj_statement.specs.Units.{number_of}
use Rattle.fj_statement.specs.Units.{place_held, place_new}
use Rattle.fj_statement.specs.declared.unit.Subject.{Subject}
use Rattle.fj_statement.specs.declared.unit.Subject.TheVariants as subject
use Rattle.fj_statement.specs.declared.deck.Variable.{Variable}
use Rattle.fj_statement.specs.declared.statement.Operand.{Operand}
use Rattle.fj_statement.specs.declared.unit.UnitRef.{UnitRef}
use Rattle.fj_statement.specs.declared.unit.UnitRef.TheVariants as unit
use Rattle.fj_statement.specs.declared.statement.Control.{Control}
use Rattle.fj_statement.specs.declared.statement.Control.TheVariants as control
use Rattle.fj_statement.specs.declared.statement.Transfer.{Transfer}
use Rattle.fj_statement.specs.declared.statement.Statement.{Statement}
use Rattle.fj_statement.specs.declared.statement.Statement.TheVariants as statement
use Rattle.fj_meaning.specs.Items.{file_places, operand_places, places_of, value_of, integer_of}
use Rattle.fj_book.specs.Prohibitions.{Need, Holder}
use Rattle.fj_meaning.specs.State.{State, Unit, Entry}
use Rattle.fj_store.specs.Variables.{Variables}

abbrev pub if_given : {A : Type 0} → Option A → List A
if_given None = []
if_given (Some x) = x ∷ []

-- the place of a unit is referenced
abbrev pub unit_places : UnitRef → List Place
unit_places u = if_given (place_held u)

abbrev pub subject_places : Subject → List Place
subject_places (subject.Unit u) = unit_places u
subject_places (subject.File name) = []

-- the place of a specifier's operand; a literal has none
abbrev pub given_places : List Variable → Option Operand → List Place
given_places variables None = []
given_places variables (Some o) = operand_places variables o

-- the value of ID=, REC= or POS=
abbrev pub number_given : Variables → Option Operand → Option ℤ
number_given vars o = option_and_then (λ (x : Operand). integer_of (value_of vars x)) o

abbrev pub given_number : State → Option Operand → Option ℤ
given_number s o = number_given s.vars o

-- the members of a group
abbrev pub group_places : List Variable → Control → List Place
group_places variables (control.Group name vars) = flat_map (places_of variables) vars
group_places variables _ = []

-- the places of the items or of the group
abbrev pub transfer_places : List Variable → Transfer → List Place
transfer_places variables t = flat_map (operand_places variables) t.items ++ group_places variables t.control

-- the elements of an internal file
abbrev pub internal_places : List Variable → UnitRef → List Place
internal_places variables (unit.Internal file) = file_places variables file
internal_places variables _ = []

abbrev pub no_need : Need
no_need = record { unit = None; references = []; defines = []; specifiers = []; items = []; internal = []; id = None }

-- of a unit, and of specifiers that define places
abbrev pub need_of : List Place → List Place → Need
need_of references specifiers = record no_need { references = references; defines = specifiers; specifiers = specifiers }

-- of READ and WRITE: the unit's place, REC= and POS= are referenced, what an output takes, and the internal file of an input; ID=, SIZE= and IOSTAT=
-- are defined, what an input reads, and the internal file of an output
abbrev pub transfer_need : List Variable → Transfer → Need
transfer_need variables t =
    let places = transfer_places variables t in
    let internal = internal_places variables t.unit in
    let specifiers = if_given t.id ++ if_given t.size ++ if_given t.iostat in
    record {
      unit = number_of t.unit;
      references = unit_places t.unit ++ given_places variables t.rec ++ given_places variables t.pos ++ (if t.input then internal else places);
      defines = specifiers ++ (if t.input then places else internal);
      specifiers = specifiers;
      items = places;
      internal = internal;
      id = None;
    }

-- the unit that a file is connected to
abbrev pub unit_of_file : List Unit → List ℕ → Option ℕ
unit_of_file [] name = None
unit_of_file (u ∷ us) name = if bytes_eq u.connection.name name then Some u.number else unit_of_file us name

-- the unit that INQUIRE names
abbrev pub number_of_subject : Subject → Option ℕ
number_of_subject (subject.Unit u) = number_of u
number_of_subject (subject.File name) = None

-- the unit that INQUIRE asks about, or that the file is connected to
abbrev pub unit_about : (List ℕ → Option ℕ) → Subject → Option ℕ
unit_about unit_named (subject.Unit u) = number_of u
unit_about unit_named (subject.File name) = unit_named name

abbrev pub unit_asked : State → Subject → Option ℕ
unit_asked s about = unit_about (unit_of_file s.units) about

abbrev pub wanted_places : List Wanted → List Place
wanted_places asked = map (λ (w : Wanted). w.place) asked

abbrev pub inquiry_need : List Variable → Variables → Option ℕ → List Place → List Wanted → Option Operand → Option Place → Need
inquiry_need variables vars number places asked id iostat =
    record (need_of (places ++ given_places variables id) (wanted_places asked ++ if_given iostat)) { unit = number; id = number_given vars id }

-- by the variables, and by the unit that a file is connected to
abbrev pub need_by : List Variable → Variables → (List ℕ → Option ℕ) → Statement → Need
need_by variables vars unit_named (statement.Assign to from) = record no_need { references = operand_places variables from; defines = operand_places variables to }
need_by variables vars unit_named (statement.OpenUnit u spec iostat) = need_of (unit_places u) (if_given (place_new u) ++ if_given iostat)
need_by variables vars unit_named (statement.CloseUnit u keep iostat) = need_of (unit_places u) (if_given iostat)
need_by variables vars unit_named (statement.WaitFor u id iostat) =
    record (need_of (unit_places u ++ given_places variables id) (if_given iostat)) { unit = number_of u; id = number_given vars id }
need_by variables vars unit_named (statement.Move how u iostat) = need_of (unit_places u) (if_given iostat)
need_by variables vars unit_named (statement.Inquire about asked id iostat _) = inquiry_need variables vars (unit_about unit_named about) (subject_places about) asked id iostat
need_by variables vars unit_named (statement.Transfer t) = transfer_need variables t
need_by variables vars unit_named statement.End = no_need

abbrev pub need : List Variable → State → Statement → Need
need variables s st = need_by variables s.vars (unit_of_file s.units) st

-- the pending transfers as prohibitions see them
abbrev pub holders : List Entry → List Holder
holders book = map (λ (e : Entry). record { id = e.id; unit = e.unit; input = e.input; places = e.places }) book
