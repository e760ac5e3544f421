-- Waits: which transfers a statement waits for and tells (ISO/IEC 1539-1:2004, 9.6), and what that does.
use Rattle.std.specs.Prelude.{ℕ, ℤ, pos, ◌==◌, ◌&&◌, ◌++◌, not, unwrap_or, Bool, true, false, List, [], ◌∷◌, map, filter, Option, Some, None, if◌then◌else◌}
use Rattle.std.specs.List.{list_any}
use Rattle.std.specs.Ordering.{int_eq}
use Rattle.fj_value.specs.declared.condition.Condition.{Condition}
use Rattle.fj_value.specs.declared.condition.Condition.TheVariants.{Fine, EndOfFile, EndOfRecord, Error}
use Rattle.fj_value.specs.declared.place.Place.{Place}
use Rattle.fj_value.specs.declared.value.Value.{Value}
use Rattle.fj_value.specs.declared.value.Value.TheVariants as value
use Rattle.fj_statement.specs.declared.deck.Variable.{Variable}
use Rattle.fj_statement.specs.declared.statement.Transfer.{Transfer}
use Rattle.fj_statement.specs.declared.statement.Statement.{Statement}
use Rattle.fj_statement.specs.declared.statement.Statement.TheVariants as statement
use Rattle.fj_store.specs.Variables.{Variables, with_value}
use Rattle.fj_meaning.specs.Items.{given_back, kind_of, number_for}
use Rattle.fj_meaning.specs.Needs.{number_of, number_given, number_of_subject}
use Rattle.fj_meaning.specs.State.{State, Unit, Entry, Tell, halts}

-- the pending transfers of a unit
abbrev pub of_unit : List Entry → Option ℕ → List Entry
of_unit book None = []
of_unit book (Some number) = filter (λ (e : Entry). e.unit == number) book

abbrev pub of_id : List Entry → Option ℕ → ℤ → List Entry
of_id book number id = filter (λ (e : Entry). int_eq (pos e.id) id) (of_unit book number)

-- the first error told, else end-of-file where one was told, else end-of-record, else fine
abbrev pub graver : Condition → Condition → Condition
graver (Error n) other = Error n
graver Fine other = other
graver EndOfFile (Error n) = Error n
graver EndOfFile other = EndOfFile
graver EndOfRecord Fine = EndOfRecord
graver EndOfRecord other = other

abbrev pub condition_of : List Entry → Condition
condition_of [] = Fine
condition_of (e ∷ es) = graver e.condition (condition_of es)

-- WAIT with ID= waits for that transfer, and for all others of its unit where that one tells an error or the end of the file;
-- without it, for all of the unit
abbrev pub waited_by : List Entry → Option ℕ → Option ℤ → List Entry
waited_by book number None = of_unit book number
waited_by book number (Some id) = if halts (condition_of (of_id book number id)) then of_unit book number else of_id book number id

-- INQUIRE with PENDING= waits as WAIT does where the transfers that it asks about are known to be done
abbrev pub if_done : Option Bool → List Entry → List Entry
if_done (Some true) es = es
if_done _ es = []

abbrev pub is_asynchronous : Transfer → Bool
is_asynchronous t = unwrap_or t.asynchronous false

-- of pending transfers those that a statement waits for, in ascending order of identifiers
abbrev pub waited_in : List Entry → Variables → Statement → List Entry
waited_in book vars (statement.Assign to from) = []
waited_in book vars (statement.OpenUnit u spec iostat) = of_unit book (number_of u)
waited_in book vars (statement.CloseUnit u keep iostat) = of_unit book (number_of u)
waited_in book vars (statement.WaitFor u id iostat) = waited_by book (number_of u) (number_given vars id)
waited_in book vars (statement.Move how u iostat) = of_unit book (number_of u)
waited_in book vars (statement.Inquire about asked id iostat done) = if_done done (waited_by book (number_of_subject about) (number_given vars id))
waited_in book vars (statement.Transfer t) = if is_asynchronous t then [] else of_unit book (number_of t.unit)
waited_in book vars statement.End = book

abbrev pub waited : State → Statement → List Entry
waited s st = waited_in s.book s.vars st

-- SIZE= gets the count of characters, or is undefined where there is none
abbrev pub count_for : List Variable → Place → Option ℕ → Value
count_for variables place (Some n) = number_for (kind_of variables place.var) (pos n)
count_for variables place None = value.Undefined

abbrev pub with_size : List Variable → Option Place → Option ℕ → Variables → Variables
with_size variables None count vars = vars
with_size variables (Some place) count vars = with_value vars place (count_for variables place count)

-- the items and SIZE= of an input become defined or undefined
abbrev pub with_input : List Variable → Entry → Variables → Variables
with_input variables e vars = if e.input then with_size variables e.size e.count (given_back variables e.cells vars) else vars

abbrev pub with_inputs : List Variable → List Entry → Variables → Variables
with_inputs variables [] vars = vars
with_inputs variables (e ∷ es) vars = with_inputs variables es (with_input variables e vars)

-- a transfer of this identifier is among them
abbrev pub tells_id : List Entry → ℕ → Bool
tells_id es id = list_any (λ (x : Entry). x.id == id) es

abbrev pub is_told : List Entry → Entry → Bool
is_told es e = tells_id es e.id

-- an error or the end of the file that is told ends the halt of its unit
abbrev pub tells_cause : List Entry → ℕ → Bool
tells_cause es number = list_any (λ (e : Entry). (e.unit == number) && halts e.condition) es

abbrev pub ends_halt : List Entry → Unit → Bool
ends_halt es u = tells_cause es u.number

abbrev pub tell_of : ℕ → Entry → Tell
tell_of line e = record { line = line; unit = e.unit; id = e.id; condition = e.condition }

-- the transfers are told by the statement of this line: they are pending no more
abbrev pub after_tells : List Variable → ℕ → List Entry → State → State
after_tells variables line es s = record s {
  vars = with_inputs variables es s.vars;
  book = filter (λ e. not (is_told es e)) s.book;
  units = map (λ (u : Unit). record u { halt = if ends_halt es u then None else u.halt }) s.units;
  tells = s.tells ++ map (tell_of line) es;
}
