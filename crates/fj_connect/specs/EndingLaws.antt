-- How long a file is once its open record is ended.
use Rattle.std.specs.Prelude.{◌≡◌, length}
use Rattle.fj_connect.specs.Spot.{size_ended}
use Rattle.fj_connect.specs.Connection.{Connection}
use Rattle.fj_connect.specs.Positions.{ended}
use Rattle.fj_connect.specs.PositionLaws.{Stands}

-- as long as the connection's bytes are then
abbrev pub EndedSizes : Type 0
EndedSizes = (c : Connection) → Stands c → length (ended c).bytes ≡ size_ended c.spot (length c.bytes)
