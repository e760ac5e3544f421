-- A bay: the place of one connection, with its halt.
use Rattle.std.specs.Prelude.{Option}
use Rattle.fj_value.specs.declared.condition.Condition.{Condition}
use Rattle.fj_connect.specs.Connection.{Connection}

pub record Bay : Type 0 where
  pub connection : Option Connection
  -- the condition that halted it, until the halt is ended
  pub halt : Option Condition
