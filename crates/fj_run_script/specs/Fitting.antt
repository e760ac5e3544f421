-- When the turn of a statement fits.
use Rattle.std.specs.Prelude.{ℕ, ◌+◌, ◌<◌, ◌^◌, List, get_or}

-- one more job of each slot can be counted
abbrev pub HasRoom : List ℕ → Type 0
HasRoom sent = (slot : ℕ) → get_or sent slot 0 + 1 < 2 ^ 64
