-- Several records of direct access, put at once.
use Rattle.std.specs.Prelude.{ℕ, List}
use Rattle.fj_byterec.specs.Runs.{with_run}
use Rattle.fj_connect.specs.Connection.{Connection, at_number}

-- whole records one after another from a place on, of which the last has this number; the gap before them is filled up
abbrev pub with_direct_run : Connection → ℕ → List ℕ → ℕ → ℕ → Connection
with_direct_run c start run last fill = at_number (record c { bytes = with_run c.bytes start run fill }) last
