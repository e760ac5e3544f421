-- What unformatted WRITEs put, and READs of it (ISO/IEC 1539-1:2004, 9.5.3.4.1).
use Rattle.std.specs.Prelude.{◌≡◌, ◌≢◌, ℕ, ℤ, pos, ◌+◌, ◌<◌, true, false, List, length, take, drop, Option, Some, None, Ok}
use Rattle.fj_value.specs.declared.condition.Condition.TheVariants.{Fine}
use Rattle.fj_modes.specs.declared.specifiers.Access.TheVariants.{Sequential, Direct, Stream}
use Rattle.fj_modes.specs.declared.specifiers.Action.TheVariants.{ReadWrite}
use Rattle.fj_byterec.specs.Pieces.{piece}
use Rattle.fj_moved.specs.declared.moved.Moved.{Moved}
use Rattle.fj_moved.specs.Moved.{values_of}
use Rattle.fj_list.specs.ReadAgain.{with_values}
use Rattle.fj_connect.specs.Connection.{Connection, between}
use Rattle.fj_connect.specs.Linked.{HasLength}
use Rattle.fj_connect.specs.Positions.{moved}
use Rattle.fj_connect.specs.PositionLaws.{Stands}
use Rattle.fj_connect.specs.declared.spot.Positioning.TheVariants.{Backspace}
use Rattle.fj_transfer.specs.declared.change.EditChange.{EditChange}
use Rattle.fj_transfer.specs.Transfer.{told_with, begins_at, body_of, transfer}
use Rattle.fj_transfer.specs.TransferLaws.{AreOfTheirKinds}
use Rattle.fj_transfer_laws.specs.Statements.{unformatted}

-- a BACKSPACE goes to where the record begins that a WRITE put, and a READ there gives the values and goes to where it ends
abbrev pub SequentialRecordsComeBack : Type 0
SequentialRecordsComeBack = (c : Connection) (edit edit' : EditChange) (from into : Moved)
    → Stands c → HasLength c.modes → c.modes.access ≡ Sequential → c.modes.action ≡ ReadWrite → AreOfTheirKinds from.cells from.order into.cells into.order
    → (transfer c (unformatted false None None edit) from).condition ≡ Fine → let new = (transfer c (unformatted false None None edit) from).connection in
    (moved new Backspace ≡ (between new c.spot.at, Fine))
    × (transfer (between new c.spot.at) (unformatted true None None edit') into ≡ told_with new (with_values into.cells into.order (values_of from)) Fine)

-- a READ of the record that a WRITE put gives the values, and every other record that was there is as before
abbrev pub DirectRecordsComeBack : Type 0
DirectRecordsComeBack = (c : Connection) (number : ℕ) (edit edit' : EditChange) (from into : Moved)
    → Stands c → c.modes.access ≡ Direct → c.modes.action ≡ ReadWrite → AreOfTheirKinds from.cells from.order into.cells into.order
    → (transfer c (unformatted false (Some (pos number)) None edit) from).condition ≡ Fine → let new = (transfer c (unformatted false (Some (pos number)) None edit) from).connection in
    (transfer new (unformatted true (Some (pos number)) None edit') into ≡ told_with new (with_values into.cells into.order (values_of from)) Fine)
    × ((other : ℕ) (found : List ℕ) → 0 < other → other ≢ number → piece c.bytes c.modes.recl other ≡ Some found → piece new.bytes c.modes.recl other ≡ Some found)

-- a READ where a WRITE began gives the values, and the bytes before them and behind them are as before
abbrev pub StreamBytesComeBack : Type 0
StreamBytesComeBack = (c start : Connection) (place : Option ℤ) (edit edit' : EditChange) (from into : Moved)
    → Stands c → c.modes.access ≡ Stream → c.modes.action ≡ ReadWrite → AreOfTheirKinds from.cells from.order into.cells into.order
    → begins_at (unformatted false None place edit) c ≡ Ok start
    → (transfer c (unformatted false None place edit) from).condition ≡ Fine → let new = (transfer c (unformatted false None place edit) from).connection in
    let at = start.spot.at in let end = at + length (body_of from) in
    (transfer new (unformatted true None (Some (pos (at + 1))) edit') into ≡ told_with new (with_values into.cells into.order (values_of from)) Fine)
    × (take at new.bytes ≡ take at c.bytes) × (drop end new.bytes ≡ drop end c.bytes) × (new.spot.at ≡ end)
