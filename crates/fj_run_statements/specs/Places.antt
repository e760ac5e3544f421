-- Runs in order, and how far places of them go.
use Rattle.std.specs.Prelude.{ℕ, ◌+◌, ◌*◌, ◌==◌, if◌then◌else◌}
use Rattle.fj_store.specs.declared.run.Run.{Run}

-- by its variable and its first element
abbrev pub key_of : Run → ℕ
key_of run = run.var * 4294967296 + run.first

-- behind runs of lesser keys of which the last has that variable and its places end there: the end of places of the run's own variable
abbrev pub reached_at : ℕ → ℕ → Run → ℕ
reached_at var end run = if run.var == var then end else 0
