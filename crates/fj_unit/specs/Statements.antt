-- The transfers that the calls of a program are, as jobs.
use Rattle.std.specs.Prelude.{ℕ, Bool, true, List, [], length, map, Option, Some, None, option_map, Result, Ok, Err, if◌then◌else◌}
use Rattle.std.specs.List.{range_with_len}
use Rattle.fj_value.specs.declared.kind.Kind.{Kind}
use Rattle.fj_value.specs.declared.value.Value.{Value}
use Rattle.fj_value.specs.declared.value.Cell.{Cell}
use Rattle.fj_value.specs.declared.condition.Condition.{Condition}
use Rattle.fj_value.specs.declared.condition.Condition.TheVariants.{Fine, Error}
use Rattle.fj_modes.specs.declared.modes.Modes.{Modes}
use Rattle.fj_modes.specs.declared.specifiers.OpenSpec.{OpenSpec}
use Rattle.fj_connect.specs.Connection.{Connection}
use Rattle.fj_connect.specs.Opening.{opened_file}
use Rattle.fj_unit.specs.Unit.{Unit, given, told}
use Rattle.fj_moved.specs.declared.moved.Moved.{Moved}
use Rattle.fj_moved.specs.Load.{row_cells}
use Rattle.fj_bay.specs.Bay.{Bay}
use Rattle.fj_transfer.specs.Printing.{control_of}
use Rattle.fj_transfer.specs.Transfer.{unfit}
use Rattle.fj_format.specs.declared.item.FormatItem.{FormatItem}
use Rattle.fj_transfer.specs.declared.transfer.Layout.{Layout}
use Rattle.fj_transfer.specs.declared.transfer.Layout.TheVariants.{Unformatted, Explicit}
use Rattle.fj_transfer.specs.declared.transfer.TransferSpec.{TransferSpec}
use Rattle.fj_bay.specs.Jobs.{Moving, items_for, Job, attach, detach, move}

-- the elements of one array, in their order, each one item
abbrev pub moved_values : Kind → List Value → Moved
moved_values kind values = record { cells = row_cells (record { var = 0; index = 1 }) kind values; order = range_with_len 0 (length values) }

-- READ or WRITE with no specifier but the format
abbrev pub spec_of : Bool → Layout → TransferSpec
spec_of input layout = record {
  input = input;
  layout = layout;
  advance = true;
  rec = None;
  pos = None;
  edit = record { blank_zero = None; comma = None; delim = None; pad = None; plus = None };
}

-- the same of an array, under an identifier
abbrev pub moving : ℕ → Bool → Layout → Kind → List Value → Moving
moving id input layout kind values = record {
  stmt = 0;
  tag = id;
  spec = spec_of input layout;
  control = control_of layout (items_for input (moved_values kind values));
  moved = moved_values kind values;
  size = None;
  count = None;
}

-- the values of the elements that a transfer left
abbrev pub values_in : Job → List Value
values_in (move t) = map (λ (cell : Cell). cell.value) t.moved.cells
values_in _ = []

-- OPEN of a unit that is not connected, by the bytes of the file, if there is one: its connection, or the condition
abbrev pub connected_by : Option (List ℕ) → List ℕ → OpenSpec → Result Modes Condition → Result Connection Condition
connected_by found name spec (Err condition) = Err condition
connected_by found name spec (Ok modes) = opened_file found name spec modes

abbrev pub attached : Unit → Result Connection Condition → Unit × Condition
attached u (Err condition) = (u, condition)
attached u (Ok c) = (told (given u (attach (Some c))), Fine)

-- the bytes of the file of a connection that was taken out
abbrev pub bytes_out : Job → Option (List ℕ)
bytes_out (detach place) = option_map (λ (c : Connection). c.bytes) place
bytes_out _ = None

-- by an explicit format, or unformatted
abbrev pub by_format : Option (List FormatItem) → Layout
by_format None = Unformatted
by_format (Some format) = Explicit format

-- ---- what a READ or WRITE tells itself

abbrev pub modes_of : Bay → Option Modes
modes_of bay = option_map (λ (c : Connection). c.modes) bay.connection

-- 1 where the unit is not connected, 2 where it is not open for asynchronous transfer, then 16 and 10
abbrev pub refusal : Option Modes → Bool → Layout → Condition
refusal None input layout = Error 1
refusal (Some modes) input layout = if modes.asynchronous then unfit modes (spec_of input layout) else Error 2
