-- What holds of transfers, in the words of records, bytes and values.
use Rattle.std.specs.Prelude.{◌≡◌, ◌≢◌, ℕ, ◌+◌, ◌<◌, ◌≤◌, List, [], ◌∷◌, length, take, drop, Some}
use Rattle.fj_value.specs.declared.value.Cell.{Cell}
use Rattle.fj_value.specs.declared.condition.Condition.TheVariants.{Fine, Error}
use Rattle.fj_value.specs.Kind.{IsOfKind}
use Rattle.fj_byterec.specs.Pieces.{piece, filled_to}
use Rattle.fj_moved.specs.declared.moved.Moved.{Moved}
use Rattle.fj_moved.specs.Cells.{kind_at}
use Rattle.fj_moved.specs.Moved.{value_at, values_of}
use Rattle.fj_list.specs.ReadAgain.{with_values}
use Rattle.fj_connect.specs.Connection.{Connection, between}
use Rattle.fj_control.specs.Steps.{Given}
use Rattle.fj_transfer.specs.declared.transfer.TransferSpec.{TransferSpec}
use Rattle.fj_transfer.specs.Transfer.{told_with, body_of, sequential_read, sequential_written, direct_written, stream_written, transfer_by}

-- a direct record that was written is there, filled up with zeros, and every other one that was there is as before
abbrev pub DirectRecordsStandApart : Type 0
DirectRecordsStandApart = (c : Connection) (number : ℕ) (cells : List Cell) (body : List ℕ) → 0 < number → (direct_written c c number cells body).condition ≡ Fine →
    let new = (direct_written c c number cells body).connection in
    (piece new.bytes c.modes.recl number ≡ Some (filled_to body c.modes.recl 0))
    × ((other : ℕ) (found : List ℕ) → 0 < other → other ≢ number → piece c.bytes c.modes.recl other ≡ Some found → piece new.bytes c.modes.recl other ≡ Some found)

-- bytes of a stream stand where they were written, and those before and behind them are as before
abbrev pub StreamOutputKeepsTheOthers : Type 0
StreamOutputKeepsTheOthers = (c : Connection) (place : ℕ) (cells : List Cell) (body : List ℕ) → place ≤ length c.bytes → (stream_written c (between c place) cells body).condition ≡ Fine →
    let new = (stream_written c (between c place) cells body).connection in
    (take place new.bytes ≡ take place c.bytes)
    × (take (length body) (drop place new.bytes) ≡ body)
    × (drop (place + length body) new.bytes ≡ drop (place + length body) c.bytes)
    × (new.spot.at ≡ place + length body)

-- items with values, and items of the same kinds, one by one
abbrev pub AreOfTheirKinds : List Cell → List ℕ → List Cell → List ℕ → Type 0
AreOfTheirKinds from [] into [] = Unit {0}
AreOfTheirKinds from [] into (at' ∷ order') = ⊥
AreOfTheirKinds from (at ∷ order) into [] = ⊥
AreOfTheirKinds from (at ∷ order) into (at' ∷ order') = (kind_at from at ≡ kind_at into at') × IsOfKind (kind_at from at) (value_at from at) × AreOfTheirKinds from order into order'

-- an unformatted record that was written is read as its values, by items of the same kinds, from where it begins to where it ends
abbrev pub UnformattedRecordsComeBack : Type 0
UnformattedRecordsComeBack = (c : Connection) (from into : Moved) → c.spot.at ≤ length c.bytes → length (body_of from) < 4294967296 → AreOfTheirKinds from.cells from.order into.cells into.order
    → (sequential_written c c from.cells (body_of from)).condition ≡ Fine →
    let new = (sequential_written c c from.cells (body_of from)).connection in
    sequential_read (between new c.spot.at) (between new c.spot.at) into ≡ told_with (between new new.spot.at) (with_values into.cells into.order (values_of from)) Fine

-- a transfer that is in error leaves the connection, whatever the layout, the access and the direction
abbrev pub ErrorsLeaveTheConnection : Type 0
ErrorsLeaveTheConnection = (control : ℕ → List Given) (c : Connection) (spec : TransferSpec) (moved : Moved) (n : ℕ) → (transfer_by control c spec moved).condition ≡ Error n → (transfer_by control c spec moved).connection ≡ c
