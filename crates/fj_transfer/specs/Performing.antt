-- What a transfer comes to, and what it leaves of its statement.
use Rattle.std.specs.Prelude.{◌≡◌}
use Rattle.fj_value.specs.declared.condition.Condition.{Condition}
use Rattle.fj_moved.specs.Cells.{places_of}
use Rattle.fj_connect.specs.Connection.{Connection}
use Rattle.fj_transfer.specs.declared.transfer.Transfer.{Transfer}
use Rattle.fj_transfer.specs.Transfer.{Done}

-- the connection, the values and what SIZE= gets of a statement that was carried out, with its condition
abbrev pub comes_to : Connection → Transfer → Condition → Done
comes_to c job condition = record { connection = c; cells = job.moved.cells; count = job.count; condition = condition }

-- all but the values and what SIZE= gets is as before
pub record LeavesStatement (old new : Transfer) : Type 0 where
  pub stmt : new.stmt ≡ old.stmt
  pub tag : new.tag ≡ old.tag
  pub spec : new.spec ≡ old.spec
  pub size : new.size ≡ old.size
  pub order : new.moved.order ≡ old.moved.order
  pub places : places_of new.moved.cells ≡ places_of old.moved.cells
