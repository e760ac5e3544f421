-- The generator of draws: a linear congruence modulo 2 ^ 31, of which a draw gives the upper 15 bits.
use Rattle.std.specs.Prelude.{ℕ, zero, suc, ◌+◌, ◌*◌, ◌/◌, ◌%◌, List, [], ◌∷◌}

-- the state after one more draw
unfoldable pub next_state : ℕ → ℕ
next_state state = (state * 1103515245 + 12345) % 2147483648

-- what a draw gives that leaves this state
unfoldable pub drawn : ℕ → ℕ
drawn state = state / 65536

-- the state after so many draws
unfoldable pub state_after : ℕ → ℕ → ℕ
state_after zero state = state
state_after (suc count) state = state_after count (next_state state)

-- so many draws in order, from a state on
unfoldable pub draws : ℕ → ℕ → List ℕ
draws zero state = []
draws (suc count) state = drawn (next_state state) ∷ draws count (next_state state)
