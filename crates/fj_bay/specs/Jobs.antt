-- What a bay may be given to do, and what it answers.
use Rattle.std.specs.Prelude.{ℕ, Bool, List, length, Option, if◌then◌else◌}
use Rattle.fj_value.specs.declared.condition.Condition.{Condition}
use Rattle.fj_value.specs.declared.edit.EditModes.{EditModes}
use Rattle.fj_moved.specs.declared.moved.Moved.{Moved}
use Rattle.fj_moved.specs.Items.{items_of}
use Rattle.fj_control.specs.Steps.{Given}
use Rattle.fj_connect.specs.Connection.{Connection}
use Rattle.fj_connect.specs.declared.spot.Positioning.{Positioning}
use Rattle.fj_connect.specs.declared.spot.Spot.{Spot}
use Rattle.fj_transfer.specs.declared.transfer.TransferSpec.{TransferSpec}

-- for how many items a format gives its control: for those of an input, or for those of an output that have values
abbrev pub items_for : Bool → Moved → ℕ
items_for input moved = if input then length moved.order else length (items_of moved)

-- A READ or WRITE: of which statement it is, and under which identifier it is pending, which is 0 where it is not; what it says,
-- what its format gives for its items, and these; the cell of SIZE=, and what SIZE= gets.
pub record Moving : Type 0 where
  pub stmt : ℕ
  pub tag : ℕ
  pub spec : TransferSpec
  pub control : List Given
  pub moved : Moved
  pub size : Option Moved
  pub count : Option ℕ

-- where a connection stands, and the size of its file
pub record Looked : Type 0 where
  pub spot : Spot
  pub size : ℕ

abbrev pub looked_at : Connection → Looked
looked_at c = record { spot = c.spot; size = length c.bytes }

pub data Job : Type 0 where
  -- brings a connection
  attach : Option Connection → Job
  -- takes the connection out
  detach : Option Connection → Job
  -- READ or WRITE
  move : Moving → Job
  -- BACKSPACE, REWIND or ENDFILE
  go : Positioning → Job
  -- other modes of formatted editing
  change : EditModes → Job
  flush : Job
  -- gets what is seen of the connection
  look : Option Looked → Job
  -- ends the halt
  resume : Job

pub data Answer : Type 0 where
  done : Condition → Answer
  -- not carried out in a halt, with its cause
  skipped : Condition → Answer
