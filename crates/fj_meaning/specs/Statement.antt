-- What a deck means: its statements, executed one after another.
use Rattle.std.specs.Prelude.{ℕ, zero, suc, ◌==◌, ℤ, Bool, true, false, List, [], ◌∷◌, ◌++◌, map, take, replicate, Option, Some, None, is_some, option_and_then}
use Rattle.std.specs.List.{list_any}
use Rattle.std.specs.Option.{option_map_or}
use Rattle.fj_value.specs.Condition.{code_of}
use Rattle.fj_value.specs.declared.condition.Condition.{Condition}
use Rattle.fj_value.specs.declared.condition.Condition.TheVariants.{Fine, Error}
use Rattle.fj_value.specs.declared.condition.Rule.{Rule}
use Rattle.fj_value.specs.declared.kind.Kind.{Kind}
use Rattle.fj_value.specs.declared.kind.Kind.TheVariants.{Chars}
use Rattle.fj_value.specs.declared.place.Place.{Place}
use Rattle.fj_value.specs.declared.value.Value.{Value}
use Rattle.fj_value.specs.declared.value.Value.TheVariants as value
use Rattle.fj_modes.specs.declared.modes.Modes.{Modes}
use Rattle.fj_modes.specs.declared.asked.Wanted.{Wanted}
use Rattle.fj_statement.specs.declared.unit.Subject.{Subject}
use Rattle.fj_statement.specs.declared.unit.Subject.TheVariants as subjects
use Rattle.fj_statement.specs.declared.deck.Variable.{Variable}
use Rattle.fj_statement.specs.declared.deck.Lined.{Lined}
use Rattle.fj_statement.specs.declared.statement.Operand.{Operand}
use Rattle.fj_statement.specs.declared.statement.Control.{Control}
use Rattle.fj_statement.specs.declared.statement.Control.TheVariants as control
use Rattle.fj_control.specs.Steps.{Given, steps}
use Rattle.fj_statement.specs.declared.statement.Statement.{Statement}
use Rattle.fj_statement.specs.declared.statement.Statement.TheVariants as statement
use Rattle.fj_bay.specs.Jobs.{Looked, looked_at}
use Rattle.fj_store.specs.Kinds.{of_kind}
use Rattle.fj_store.specs.Variables.{Variables, value_at, with_value}
use Rattle.fj_statement.specs.Units.{begun, new_code, number_from_code, place_new}
use Rattle.fj_meaning.specs.Items.{given_back, kind_of, operand_places, value_of}
use Rattle.fj_book.specs.Prohibitions.{prohibited, Holder, has_id}
use Rattle.fj_meaning.specs.Needs.{number_of, need, holders, given_number, unit_asked}
use Rattle.fj_meaning.specs.Telling.{waited, condition_of, after_tells}
use Rattle.fj_meaning.specs.Transfers.{with_number, reads_or_writes, transfers_nothing}
use Rattle.fj_meaning.specs.Connecting.{opens_unit, closes, closes_anyway, moves}
use Rattle.fj_meaning.specs.Inquiring.{About, inquired, none_pending}
use Rattle.fj_meaning.specs.State.{State, Files, Unit, Entry, Tell, Output, found, all_closed, start}

-- ---- assignment (7.4.1.3): characters are cut, or filled up with blanks

abbrev pub converted : Kind → Value → Value
converted (Chars n) (value.Chars cs) = value.Chars (take n (cs ++ replicate n 32))
converted kind v = of_kind kind v

abbrev pub assigned : List Variable → List Place → Value → Variables → Variables
assigned variables [] v vars = vars
assigned variables (place ∷ places) v vars = assigned variables places v (with_value vars place (converted (kind_of variables place.var) v))

-- ---- INQUIRE (9.9)

-- a transfer is pending on the unit, or the one of that identifier
abbrev pub is_of_unit : Option ℕ → Holder → Bool
is_of_unit None h = false
is_of_unit (Some number) h = h.unit == number

abbrev pub has_pending : List Holder → Option ℕ → Option ℤ → Bool
has_pending book number None = list_any (is_of_unit number) book
has_pending book number (Some id) = list_any (has_id number id) book

-- of a unit or file that is not connected
abbrev pub about_other : Files → Option (List ℕ) → About
about_other files file = record {
  unit = None;
  file = file;
  exists = option_map_or (λ name. is_some (files name)) file false;
  name = None;
  modes = None;
  look = None;
  pending = false;
}

-- of a connected one
abbrev pub about_connected : ℕ → Option (List ℕ) → List ℕ → Modes → Option Looked → Bool → About
about_connected number file name modes look pending =
    record { unit = Some number; file = file; exists = true; name = Some name; modes = Some modes; look = look; pending = pending }

-- the answers are those behind all pending transfers of the unit
abbrev pub about : State → Option ℕ → Option (List ℕ) → Option ℤ → Option Unit → About
about s number file id None = about_other s.files file
about s number file id (Some u) =
    about_connected u.number file u.connection.name u.connection.modes (Some (looked_at u.connection)) (has_pending (holders s.book) number id)

abbrev pub file_asked : Subject → Option (List ℕ)
file_asked (subjects.Unit u) = None
file_asked (subjects.File name) = Some name

abbrev pub inquires : List Variable → State → Option ℕ → Option (List ℕ) → List Wanted → Option Operand → State × Condition
inquires variables s number file asked id =
    (record s { vars = given_back variables (inquired (about s number file (given_number s id) (option_and_then (found s.units) number)) asked) s.vars }, Fine)

-- ---- the statement's own action, and what is done in its place where a condition of a transfer was told

-- the unit of a number
abbrev pub unit_at : State → Option ℕ → Option Unit
unit_at s number = option_and_then (found s.units) number

abbrev pub if_numbered : State → Option ℕ → (ℕ → State × Condition) → State × Condition
if_numbered s None action = (s, Error 1)
if_numbered s (Some n) action = action n

abbrev pub own : (ℕ → List Given) → List Variable → State → Statement → State × Condition
own control variables s (statement.Assign to from) = (record s { vars = assigned variables (operand_places variables to) (value_of s.vars from) s.vars }, Fine)
own control variables s (statement.OpenUnit u spec iostat) = if_numbered s (number_of u) (λ n. opens_unit s u n spec (found s.units n))
own control variables s (statement.CloseUnit u keep iostat) = closes s keep (unit_at s (number_of u))
own control variables s (statement.WaitFor u id iostat) = (s, Fine)
own control variables s (statement.Move how u iostat) = moves s how (unit_at s (number_of u))
own control variables s (statement.Inquire subject asked id iostat _) = inquires variables s (unit_asked s subject) (file_asked subject) asked id
own control variables s (statement.Transfer t) = reads_or_writes control variables s t
own control variables s statement.End = (all_closed s, Fine)

abbrev pub instead : List Variable → State → Statement → State
instead variables s (statement.CloseUnit u keep iostat) = closes_anyway s keep (unit_at s (number_of u))
instead variables s (statement.Inquire about asked id iostat _) = record s { vars = given_back variables (none_pending asked) s.vars }
instead variables s (statement.Transfer t) = transfers_nothing variables s t
instead variables s statement.End = all_closed s
instead variables s _ = s

abbrev pub acts : (ℕ → List Given) → List Variable → State → Statement → Condition → State × Condition
acts control variables s st Fine = own control variables s st
acts control variables s st condition = (instead variables s st, condition)

-- ---- IOSTAT= (9.10.4), and how a deck ends

-- how the statement of a line ends the deck
pub data Ending : Type 0 where
  ended : Ending
  error_stop : ℕ → ℤ → Ending
  prohibition : ℕ → Rule → Ending

abbrev pub iostat_of : Statement → Option Place
iostat_of (statement.Assign to from) = None
iostat_of (statement.OpenUnit u spec iostat) = iostat
iostat_of (statement.CloseUnit u keep iostat) = iostat
iostat_of (statement.WaitFor u id iostat) = iostat
iostat_of (statement.Move how u iostat) = iostat
iostat_of (statement.Inquire subject asked id iostat _) = iostat
iostat_of (statement.Transfer t) = t.iostat
iostat_of statement.End = None

-- NEWUNIT= gets the number of a unit that it connected (ISO/IEC 1539-1:2010, 9.5.6.12), which is not given again
abbrev pub new_place : Statement → Condition → Option Place
new_place (statement.OpenUnit u spec iostat) Fine = place_new u
new_place st condition = None

abbrev pub next_new : Option Place → ℕ → ℕ
next_new None code = code
next_new (Some place) code = new_code code

abbrev pub with_new_unit : List Variable → Statement → Condition → ℕ → Variables → Variables
with_new_unit variables st condition code vars = with_number variables (new_place st condition) (number_from_code code) vars

abbrev pub defines : List Variable → Statement → State × Condition → State
defines variables st done = record (done.0) {
  vars = with_number variables (iostat_of st) (code_of done.1) (with_new_unit variables st done.1 done.0.new_unit done.0.vars);
  new_unit = next_new (new_place st done.1) done.0.new_unit;
}

-- a condition that no IOSTAT= catches ends the deck in error
abbrev pub uncaught : ℕ → Option Place → Condition → Option Ending
uncaught line (Some place) condition = None
uncaught line None Fine = None
uncaught line None condition = Some (error_stop line (code_of condition))

abbrev pub ends : ℕ → Statement → Condition → Option Ending
ends line statement.End Fine = Some ended
ends line st condition = uncaught line (iostat_of st) condition

abbrev pub completed : List Variable → ℕ → Statement → State × Condition → State × Option Ending
completed variables line st done = (defines variables st done, ends line st done.1)

-- ---- one statement: prohibitions first; then the transfers that it waits for are told; then its own action

abbrev pub acts_after : (ℕ → List Given) → List Variable → ℕ → Statement → State → List Entry → State × Option Ending
acts_after control variables line st s es = completed variables line st (acts control variables (after_tells variables line es s) st (condition_of es))

abbrev pub goes_on : (ℕ → List Given) → List Variable → ℕ → Statement → State → Option Rule → State × Option Ending
goes_on control variables line st s (Some rule) = (s, Some (prohibition line rule))
goes_on control variables line st s None = acts_after control variables line st s (waited s st)

-- a statement, and what the format of a transfer gives for so many items
abbrev pub Stated : Type 0
Stated = Lined × (ℕ → List Given)

-- a statement as it begins: its unit has the number that its place has then, or that NEWUNIT= is to give it
abbrev pub begins : Variables → ℕ → Stated → Stated
begins vars new st = (record st.0 { what = begun (value_at vars) new st.0.what }, st.1)

abbrev pub begun_in : State → Stated → Stated
begun_in s st = begins s.vars s.new_unit st

unfoldable pub step : List Variable → Stated → State → State × Option Ending
step variables st s = goes_on st.1 variables st.0.line st.0.what s (prohibited s.vars (holders s.book) (need variables s st.0.what))

-- ---- a deck

-- where the statements came to, and how they ended, if they did
pub record Ran : Type 0 where
  pub state : State
  pub ending : Option Ending

abbrev pub executed : List Variable → List Stated → State → Ran
executed variables [] s = record { state = s; ending = None }
executed variables (st ∷ more) s =
    let done = step variables (begun_in s st) s in
    elim done.1 as (λ _. Ran) [
      | None ↦ executed variables more done.0
      | Some e ↦ record { state = done.0; ending = Some e }
    ]

abbrev pub control_in : Control → ℕ → List Given
control_in (control.Explicit f) n = steps f n
control_in _ n = []

abbrev pub control_by : Statement → ℕ → List Given
control_by (statement.Transfer t) n = control_in t.control n
control_by _ n = []

-- the statements of a deck with their format control
abbrev pub stated : List Lined → List Stated
stated statements = map (λ (lined : Lined). (lined, control_by lined.what)) statements

-- what a run leaves: its ending, the output, the transfers that were told, the variables and the files; at a stop, too, open
-- records are ended and scratch files removed
pub record Result : Type 0 where
  pub ending : Option Ending
  pub output : Output
  pub tells : List Tell
  pub vars : Variables
  pub files : Files

abbrev pub result_of : Ran → Result
result_of r = record { ending = r.ending; output = r.state.output; tells = r.state.tells; vars = r.state.vars; files = (all_closed r.state).files }

-- by statements with their format control
abbrev pub execution : List Variable → List Stated → Files → Result
execution variables sts files = result_of (executed variables sts (start variables files))

abbrev pub plain_execution : List Variable → List Lined → Files → Result
plain_execution variables statements files = execution variables (stated statements) files

-- ---- a run up to a statement

-- just before the statement at a place of the deck, counted from 0: that statement as it begins, and the state; none where the execution ends
-- before it
abbrev pub cut : List Variable → ℕ → List Stated → State → Option (Stated × State)
cut variables index [] s = None
cut variables zero (st ∷ more) s = Some (begun_in s st, s)
cut variables (suc index) (st ∷ more) s =
    let done = step variables (begun_in s st) s in
    elim done.1 as (λ _. Option (Stated × State)) [
      | None ↦ cut variables index more done.0
      | Some e ↦ None
    ]
