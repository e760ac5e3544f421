-- What list-directed and namelist WRITEs put, and READs of it (ISO/IEC 1539-1:2004, 10.9, 10.10).
use Rattle.std.specs.Prelude.{◌≡◌, ℕ, ◌+◌, true, false, List, length, All, Some}
use Rattle.fj_value.specs.declared.condition.Condition.TheVariants.{Fine}
use Rattle.fj_modes.specs.declared.specifiers.Action.TheVariants.{ReadWrite}
use Rattle.fj_moved.specs.declared.moved.Moved.{Moved}
use Rattle.fj_moved.specs.declared.moved.GroupMember.{GroupMember}
use Rattle.fj_list.specs.ListText.{mark_of, listed}
use Rattle.fj_moved.specs.Moved.{values_of}
use Rattle.fj_list.specs.ReadAgain.{with_values}
use Rattle.fj_namelist.specs.GroupText.{group_written}
use Rattle.fj_namelist.specs.GroupReadAgain.{IsName, AreWritten, ShareCells, with_members}
use Rattle.fj_seqrec.specs.LineLaws.{IsPlain}
use Rattle.fj_connect.specs.Connection.{Connection, between, missing_feed}
use Rattle.fj_connect.specs.PositionLaws.{Stands}
use Rattle.fj_transfer.specs.declared.change.EditChange.{EditChange}
use Rattle.fj_transfer.specs.declared.transfer.Layout.TheVariants.{Listed, Group}
use Rattle.fj_transfer.specs.Change.{changed}
use Rattle.fj_transfer.specs.Transfer.{told_with, transfer}
use Rattle.fj_transfer.specs.TransferLaws.{AreOfTheirKinds}
use Rattle.fj_transfer_laws.specs.Statements.{laid_out}

-- Under DELIM='APOSTROPHE' or 'QUOTE' what a list-directed WRITE puts is read as its values, by items of the same kinds, from where
-- its first record begins; the position then is where the WRITE left it.
abbrev pub ListedRecordsComeBack : Type 0
ListedRecordsComeBack = (c : Connection) (edit : EditChange) (from into : Moved) (mark : ℕ)
    → Stands c → c.modes.action ≡ ReadWrite → mark_of (changed edit c.modes.edit).delim ≡ Some mark → AreOfTheirKinds from.cells from.order into.cells into.order
    → All IsPlain (listed (changed edit c.modes.edit) (values_of from))
    → (transfer c (laid_out false Listed edit) from).condition ≡ Fine → let new = (transfer c (laid_out false Listed edit) from).connection in
    transfer (between new (c.spot.at + length (missing_feed c))) (laid_out true Listed edit) into ≡ told_with new (with_values into.cells into.order (values_of from)) Fine

-- The same of a namelist group: its variables get the values that they had.
abbrev pub GroupRecordsComeBack : Type 0
GroupRecordsComeBack = (c : Connection) (name : List ℕ) (members : List GroupMember) (edit : EditChange) (from into : Moved) (mark : ℕ)
    → Stands c → c.modes.action ≡ ReadWrite → mark_of (changed edit c.modes.edit).delim ≡ Some mark → IsName name → AreWritten from.cells members → ShareCells members
    → All IsPlain (group_written (changed edit c.modes.edit) name members from.cells)
    → (transfer c (laid_out false (Group name members) edit) from).condition ≡ Fine → let new = (transfer c (laid_out false (Group name members) edit) from).connection in
    transfer (between new (c.spot.at + length (missing_feed c))) (laid_out true (Group name members) edit) into ≡ told_with new (with_members members from.cells into.cells) Fine
