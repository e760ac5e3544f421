-- READ and WRITE (ISO/IEC 1539-1:2004, 9.5): what the statement itself tells, and a transfer carried out or made pending.
use Rattle.std.specs.Prelude.{ℕ, ℤ, pos, ◌+◌, ◌==◌, ◌&&◌, ◌++◌, not, Bool, unwrap_or, is_some, true, List, [], ◌∷◌, length, map, slice_get, Option, Some, None, option_map, option_and_then, if◌then◌else◌, Result, Ok, Err}
use Rattle.std.specs.List.{flat_map, position_or_len}
use Rattle.fj_value.specs.declared.condition.Condition.{Condition}
use Rattle.fj_value.specs.declared.condition.Condition.TheVariants.{Fine, Error}
use Rattle.fj_value.specs.declared.place.Place.{Place}
use Rattle.fj_value.specs.declared.value.Cell.{Cell}
use Rattle.fj_modes.specs.Modes.{usual_edit}
use Rattle.fj_modes.specs.declared.modes.Modes.{Modes}
use Rattle.fj_moved.specs.declared.moved.Moved.{Moved}
use Rattle.fj_moved.specs.declared.moved.GroupMember.{GroupMember}
use Rattle.fj_list.specs.ListText.{text_of}
use Rattle.fj_transfer.specs.Change.{changed}
use Rattle.fj_transfer.specs.declared.transfer.TransferSpec.{TransferSpec}
use Rattle.fj_transfer.specs.declared.transfer.Layout.{Layout}
use Rattle.fj_transfer.specs.declared.transfer.Layout.TheVariants as layout
use Rattle.fj_statement.specs.declared.deck.Variable.{Variable}
use Rattle.fj_statement.specs.declared.statement.Control.{Control}
use Rattle.fj_statement.specs.declared.statement.Control.TheVariants as control
use Rattle.fj_statement.specs.declared.unit.InternalFile.{InternalFile}
use Rattle.fj_statement.specs.declared.unit.UnitRef.{UnitRef}
use Rattle.fj_statement.specs.declared.unit.UnitRef.TheVariants as unit
use Rattle.fj_statement.specs.declared.statement.Transfer.{Transfer}
use Rattle.fj_store.specs.Variables.{Variables, with_value, undefined_at, moved_of, is_at}
use Rattle.fj_internal.specs.Internal.{Put, Taken, read_inside, written_inside}
use Rattle.fj_meaning.specs.Items.{file_places, given_back, kind_of, cell_at, cells_of, number_for}
use Rattle.fj_meaning.specs.Needs.{number_of, transfer_places, group_places, if_given, number_given}
use Rattle.fj_meaning.specs.Telling.{is_asynchronous, with_size}
use Rattle.fj_transfer.specs.Printing.{Printed, printed}
use Rattle.fj_meaning.specs.State.{State, Unit, Entry, Output, found, with_unit, elements}
use Rattle.fj_control.specs.Steps.{Given}
use Rattle.fj_transfer.specs.Transfer.{Done, transfer_by, is_formatted, ends_record, unfitness}
pub use Rattle.fj_bay.specs.Halt.{halt_behind, unless_halted}

-- ---- the statement as a transfer

-- a variable of a group, with its first cell
abbrev pub member_of : List Cell → ℕ → Variable → GroupMember
member_of cells var v = record {
  name = v.name;
  kind = v.kind;
  first = position_or_len (is_at (record { var = var; index = 1 })) cells;
  count = elements v;
  scalar = v.count == 0;
}

abbrev pub members_of : List Variable → List Cell → List ℕ → List GroupMember
members_of variables cells vars = flat_map (λ var. if_given (option_map (member_of cells var) (slice_get variables var))) vars

abbrev pub layout_of : List Variable → List Cell → Control → Layout
layout_of variables cells control.Unformatted = layout.Unformatted
layout_of variables cells (control.Explicit f) = layout.Explicit f
layout_of variables cells control.Listed = layout.Listed
layout_of variables cells (control.Group name vars) = layout.Group name (members_of variables cells vars)

-- the cells of the items or of the group
abbrev pub moved_in : List Variable → Variables → Transfer → Moved
moved_in variables vars t = moved_of (cells_of variables vars t.items ++ map (cell_at variables vars) (group_places variables t.control))

abbrev pub moved_by : List Variable → State → Transfer → Moved
moved_by variables s t = moved_in variables s.vars t

abbrev pub spec_in : List Variable → Variables → Transfer → List Cell → TransferSpec
spec_in variables vars t cells = record {
  input = t.input;
  layout = layout_of variables cells t.control;
  advance = unwrap_or t.advance true;
  rec = number_given vars t.rec;
  pos = number_given vars t.pos;
  edit = record { blank_zero = t.blank_zero; comma = t.comma; delim = t.delim; pad = t.pad; plus = t.plus };
}

abbrev pub spec_of : List Variable → State → Transfer → List Cell → TransferSpec
spec_of variables s t cells = spec_in variables s.vars t cells

-- ---- what the statement itself tells: 2 where the unit is not open for asynchronous transfer, then 16 and 10

abbrev pub refusal : Modes → Transfer → Layout → Condition
refusal modes t layout =
    if is_asynchronous t && not modes.asynchronous then Error 2
    else unfitness modes layout t.input (is_some t.advance) (is_some t.rec) (is_some t.pos)

-- ---- values

-- the items of an input and SIZE= are undefined
abbrev pub without_values : List Variable → Transfer → Moved → Variables → Variables
without_values variables t moved vars = if t.input then with_size variables t.size None (undefined_at moved.cells vars) else vars

abbrev pub with_number : List Variable → Option Place → ℤ → Variables → Variables
with_number variables None n vars = vars
with_number variables (Some place) n vars = with_value vars place (number_for (kind_of variables place.var) n)

-- ---- a synchronous transfer

-- the items and SIZE= of an input have their values
abbrev pub with_cells : List Variable → Transfer → List Cell → Option ℕ → Variables → Variables
with_cells variables t cells count vars = if t.input then with_size variables t.size count (given_back variables cells vars) else vars

-- until it ends they have no value
abbrev pub with_values : List Variable → Transfer → Moved → Done → Variables → Variables
with_values variables t moved done vars = with_cells variables t done.cells done.count (without_values variables t moved vars)

abbrev pub carried_out : List Variable → State → Transfer → Moved → Unit → Done → State × Condition
carried_out variables s t moved u done =
    (record s { vars = with_values variables t moved done s.vars; units = with_unit (record u { connection = done.connection }) s.units }, done.condition)

-- ---- a pending transfer

-- what it holds while it is pending: its items or its group, and of an input SIZE=
abbrev pub held_places : List Variable → Transfer → List Place
held_places variables t = transfer_places variables t ++ (if t.input then if_given t.size else [])

abbrev pub entry_of : List Variable → State → Transfer → Unit → Done → Entry
entry_of variables s t u done = record {
  id = s.next;
  unit = u.number;
  input = t.input;
  places = held_places variables t;
  cells = if t.input then done.cells else [];
  size = t.size;
  count = done.count;
  condition = done.condition;
}

-- it is pending under the next identifier, which ID= gets, with what became of it; until it is told its items have no value
abbrev pub pending_with : List Variable → State → Transfer → Moved → Unit → Done → State × Condition
pending_with variables s t moved u done = (
  record s {
    vars = with_number variables t.id (pos s.next) (without_values variables t moved s.vars);
    book = s.book ++ entry_of variables s t u done ∷ [];
    units = with_unit (record u { connection = done.connection; halt = halt_behind u.halt done.condition }) s.units;
    next = s.next + 1;
  },
  Fine,
)

abbrev pub made_pending : List Variable → State → Transfer → Moved → Unit → Done → State × Condition
made_pending variables s t moved u done = pending_with variables s t moved u (unless_halted u.halt u.connection t.input moved.cells done)

-- ---- on a connected unit

abbrev pub refused : List Variable → State → Transfer → Moved → Condition → State × Condition
refused variables s t moved condition = (record s { vars = without_values variables t moved s.vars }, condition)

abbrev pub transferred : (ℕ → List Given) → List Variable → State → Transfer → Moved → Unit → State × Condition
transferred control variables s t moved u =
    let done = transfer_by control u.connection (spec_of variables s t moved.cells) moved in
    if is_asynchronous t then made_pending variables s t moved u done else carried_out variables s t moved u done

abbrev pub unless_refused : (ℕ → List Given) → List Variable → State → Transfer → Moved → Unit → Condition → State × Condition
unless_refused control variables s t moved u Fine = transferred control variables s t moved u
unless_refused control variables s t moved u condition = refused variables s t moved condition

abbrev pub on_unit : (ℕ → List Given) → List Variable → State → Transfer → Moved → Option Unit → State × Condition
on_unit control variables s t moved None = refused variables s t moved (Error 1)
on_unit control variables s t moved (Some u) = unless_refused control variables s t moved u (refusal u.connection.modes t (layout_of variables moved.cells t.control))

-- ---- on `*`

-- the longest record of `*`, in characters
abbrev pub star_limit : ℕ
star_limit = 65536

-- more was printed; the last record then ends, or stays open
abbrev pub with_printed : Bool → Output → Printed → Output
with_printed ends output p = record {
  text = output.text ++ text_of p.records ++ p.«open»;
  begun = (if length p.records == 0 then output.begun else 0) + length p.«open»;
  is_open = not ends;
}

-- the output then, or the condition
abbrev pub printed_to : Bool → Output → Result Printed Condition → Output × Condition
printed_to ends output (Err condition) = (output, condition)
printed_to ends output (Ok p) = (with_printed ends output p, Fine)

abbrev pub star_printed : (ℕ → List Given) → Output → Transfer → Moved → TransferSpec → Output × Condition
star_printed control output t moved spec =
    if is_asynchronous t then (output, Error 2)
    else (if not (is_formatted spec.layout) then (output, Error 16)
    else printed_to (ends_record spec) output (printed star_limit output.begun spec control (changed spec.edit usual_edit) moved))

abbrev pub on_star : (ℕ → List Given) → State → Transfer → Moved → TransferSpec → State × Condition
on_star control s t moved spec = let p = star_printed control s.output t moved spec in (record s { output = p.0 }, p.1)

-- ---- on an internal file: the statement itself carries it out

-- the records of the file
abbrev pub file_cells : List Variable → Variables → InternalFile → List Cell
file_cells variables vars file = map (cell_at variables vars) (file_places variables file)

-- the items of an input have their values, or none
abbrev pub with_taken : List Variable → Variables → Transfer → Moved → Taken → Variables × Condition
with_taken variables vars t moved taken = (with_cells variables t taken.cells taken.count (without_values variables t moved vars), taken.condition)

-- the elements have theirs
abbrev pub with_put : List Variable → Variables → Put → Variables × Condition
with_put variables vars put = (given_back variables put.elements vars, put.condition)

-- the variables then, and the condition
abbrev pub inside : (ℕ → List Given) → List Variable → Variables → Transfer → Moved → InternalFile → Variables × Condition
inside control variables vars t moved file =
    let elements = file_cells variables vars file in
    let spec = spec_in variables vars t moved.cells in
    if t.input then with_taken variables vars t moved (read_inside control elements spec moved) else with_put variables vars (written_inside control elements spec moved)

abbrev pub on_file : (ℕ → List Given) → List Variable → State → Transfer → Moved → InternalFile → State × Condition
on_file control variables s t moved file = let done = inside control variables s.vars t moved file in (record s { vars = done.0 }, done.1)

-- ---- the statement

abbrev pub transfer_at : (ℕ → List Given) → List Variable → State → Transfer → Moved → UnitRef → State × Condition
transfer_at control variables s t moved unit.Star = on_star control s t moved (spec_of variables s t moved.cells)
transfer_at control variables s t moved (unit.Internal file) = on_file control variables s t moved file
transfer_at control variables s t moved u = on_unit control variables s t moved (option_and_then (found s.units) (number_of u))

abbrev pub reads_or_writes : (ℕ → List Given) → List Variable → State → Transfer → State × Condition
reads_or_writes control variables s t = transfer_at control variables s t (moved_by variables s t) t.unit

-- where the transfers that it waits for told a condition, a READ reads nothing
abbrev pub transfers_nothing : List Variable → State → Transfer → State
transfers_nothing variables s t = record s { vars = without_values variables t (moved_by variables s t) s.vars }
