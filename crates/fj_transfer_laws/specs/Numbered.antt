-- What is written under a format to direct records, and read again (ISO/IEC 1539-1:2004, 9.2.2.2).
use Rattle.std.specs.Prelude.{◌≡◌, ◌⊎◌, ℕ, ◌+◌, ◌<◌, ◌≤◌, List, length, slice_get, Some}
use Rattle.fj_value.specs.declared.condition.Condition.TheVariants.{Fine}
use Rattle.fj_modes.specs.declared.specifiers.Access.TheVariants.{Direct}
use Rattle.fj_modes.specs.declared.specifiers.Action.TheVariants.{ReadWrite}
use Rattle.fj_format.specs.declared.item.FormatItem.{FormatItem}
use Rattle.fj_byterec.specs.Pieces.{piece, filled_to}
use Rattle.fj_moved.specs.declared.moved.Moved.{Moved}
use Rattle.fj_moved.specs.Moved.{values_of}
use Rattle.fj_list.specs.ReadAgain.{with_values}
use Rattle.fj_connect.specs.Connection.{Connection}
use Rattle.fj_connect.specs.PositionLaws.{Stands}
use Rattle.fj_connect.specs.Linked.{HasLength}
use Rattle.fj_transfer.specs.declared.change.EditChange.{EditChange}
use Rattle.fj_transfer.specs.Transfer.{transfer}
use Rattle.fj_transfer.specs.TransferLaws.{AreOfTheirKinds}
use Rattle.fj_transfer_laws.specs.Statements.{reading_number, writing_number}
use Rattle.fj_transfer_laws.specs.RoundTrip.{CanBeRead, characters_in, written_parts, written_records}

-- The records that a direct WRITE under a format puts, one behind another from its number on, are there, filled up with blanks; every
-- other one that was there is as before.
abbrev pub NumberedRecordsStandApart : Type 0
NumberedRecordsStandApart = (c : Connection) (f : List FormatItem) (number : ℕ) (edit : EditChange) (from : Moved)
    → c.modes.access ≡ Direct → (transfer c (writing_number f number edit) from).condition ≡ Fine
    → let new = (transfer c (writing_number f number edit) from).connection in let records = written_records c edit f from in
    ((k : ℕ) (text : List ℕ) → slice_get records k ≡ Some text → piece new.bytes c.modes.recl (number + k) ≡ Some (filled_to text c.modes.recl 32))
    × ((other : ℕ) (found : List ℕ) → 0 < other → (other < number) ⊎ (number + length records ≤ other)
    → piece c.bytes c.modes.recl other ≡ Some found → piece new.bytes c.modes.recl other ≡ Some found)

-- A READ of that number under the same format gives the values.
abbrev pub NumberedRecordsComeBack : Type 0
NumberedRecordsComeBack = (c : Connection) (f : List FormatItem) (number : ℕ) (edit edit' : EditChange) (from into : Moved)
    → Stands c → HasLength c.modes → c.modes.access ≡ Direct → c.modes.action ≡ ReadWrite → AreOfTheirKinds from.cells from.order into.cells into.order
    → CanBeRead (written_parts c edit f from) → (transfer c (writing_number f number edit) from).condition ≡ Fine
    → let new = (transfer c (writing_number f number edit) from).connection in
    transfer new (reading_number f number edit') into
    ≡ record { connection = new; cells = with_values into.cells into.order (values_of from); count = Some (characters_in (written_parts c edit f from)); condition = Fine }
