-- What READs and WRITEs leave in their cells: values of their kinds, or undefined ones (ISO/IEC 1539-1:2004, 9.5.3.4).
use Rattle.std.specs.Prelude.{◌≡◌, ℕ, List, take, drop, All}
use Rattle.fj_value.specs.declared.value.Cell.{Cell}
use Rattle.fj_control.specs.Steps.{Given}
use Rattle.fj_moved.specs.declared.moved.Moved.{Moved}
use Rattle.fj_moved.specs.declared.moved.GroupMember.{GroupMember}
use Rattle.fj_list.specs.ConstantLaws.{HaveKinds}
use Rattle.fj_moved.specs.Cells.{places_of}
use Rattle.fj_connect.specs.Connection.{Connection}
use Rattle.fj_transfer.specs.declared.transfer.TransferSpec.{TransferSpec}
use Rattle.fj_transfer.specs.Moving.{members_of}
use Rattle.fj_transfer.specs.Transfer.{transfer_by}

-- the cells of a variable of a group are of its kind
abbrev pub HasItsKind : List Cell → GroupMember → Type 0
HasItsKind cells m = All (λ (cell : Cell). cell.kind ≡ m.kind) (take m.count (drop m.first cells))

-- Cells before and after: each is now undefined or has a value of its kind, and the places and kinds are those that they were.
pub record KeepKinds (old new : List Cell) : Type 0 where
  pub values : HaveKinds new
  pub places : places_of new ≡ places_of old

-- A READ or WRITE keeps the kinds of its cells, whatever the connection, the layout, the access and the direction, and whatever
-- condition it meets.
abbrev pub ValuesAreOfTheirKinds : Type 0
ValuesAreOfTheirKinds = (control : ℕ → List Given) (c : Connection) (spec : TransferSpec) (moved : Moved)
    → HaveKinds moved.cells → All (HasItsKind moved.cells) (members_of spec.layout) → KeepKinds moved.cells (transfer_by control c spec moved).cells
