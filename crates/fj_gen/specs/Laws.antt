-- What holds of draws.
use Rattle.std.specs.Prelude.{◌≡◌, ℕ, ◌+◌, ◌<◌, ◌++◌, length}
use Rattle.std.specs.List.{All}
use Rattle.fj_gen.specs.Draws.{next_state, state_after, draws}

-- a state stays below 2 ^ 31, and so a draw below 2 ^ 15; a longer list of draws goes on where a shorter one ends
pub record DrawsAreInRange : Type 0 where
  pub state : (state : ℕ) → next_state state < 2147483648
  pub drawn : (count state : ℕ) → All (λ draw. draw < 32768) (draws count state)
  pub length : (count state : ℕ) → length (draws count state) ≡ count
  pub more : (count others state : ℕ) → draws (count + others) state ≡ draws count state ++ draws others (state_after count state)
