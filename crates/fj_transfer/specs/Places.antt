-- Where a transfer begins: at the position, or at the place that POS= or REC= names.
use Rattle.std.specs.Prelude.{ℕ, ◌≤◌, List, [], Option, Some, None}
use Rattle.fj_connect.specs.Connection.{Connection, between, missing_feed}
use Rattle.fj_connect.specs.Spot.{spot_between}
use Rattle.fj_connect.specs.declared.spot.Spot.{Spot}

abbrev pub spot_at : Option ℕ → Spot → Spot
spot_at None spot = spot
spot_at (Some place) spot = spot_between spot place

abbrev pub at_place : Option ℕ → Connection → Connection
at_place None c = c
at_place (Some place) c = between c place

-- the line feed that output lacks there; with POS= a record begins at the byte that it names, and lacks none (own)
abbrev pub feed_at : Option ℕ → Connection → List ℕ
feed_at None c = missing_feed c
feed_at (Some place) c = []

-- the place is one of a file of this size
abbrev pub IsPlace : Option ℕ → ℕ → Type 0
IsPlace None size = Unit {0}
IsPlace (Some place) size = place ≤ size

-- direct access begins with the record of a number
abbrev pub before_number : Connection → ℕ → Connection
before_number c number = record c { spot = record c.spot { next_number = number } }
