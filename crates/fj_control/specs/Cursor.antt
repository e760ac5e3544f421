-- The fields of a cursor as a walk.
use Rattle.std.specs.Prelude.{◌≡◌, ◌≤◌, vec_capacity}
use Rattle.fj_format.specs.Unfolding.{Steps, pass, height, has_data}
use Rattle.fj_control.specs.declared.cursor.State.{State}
use Rattle.fj_control.specs.declared.cursor.State.TheVariants.{Walking, Done, NoData}
use Rattle.fj_control.specs.declared.cursor.Cursor.TheInside.{Inside}
use Rattle.fj_control.specs.Steps.{round_of}
use Rattle.fj_control.specs.Walk.{Walk, Position, walking, ended, lacking}
use Rattle.fj_control.specs.Walker.{rest_of, IsSound as WalkerIsSound}

abbrev pub position : State → Steps → Position
position Walking rest = walking rest
position Done rest = ended
position NoData rest = lacking

abbrev pub walk_of : Inside → Walk
walk_of c = record { at = position c.state (rest_of c.walker); again = round_of c.endless (pass c.again.now) }

pub record IsReady (c : Inside) : Type 0 where
  pub walker : WalkerIsSound c.walker
  pub low : height c.again.now ≤ vec_capacity c.walker.outer
  pub has_data : c.has_data ≡ has_data (round_of c.endless (pass c.again.now))
