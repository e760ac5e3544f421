-- What a list of slots is seen as.
use Rattle.std.specs.Prelude.{◌≡◌, ℕ, List, Some, slice_get}
use Rattle.fj_slot.specs.Ledger.{Ledger}

pub record Rack (E J A : Type 0) : Type 0 where
  pub slots : List (Ledger E J A)
  -- the room behind them
  pub spare : ℕ

-- every slot at that place
abbrev pub At : {E J A : Type 0} → Rack E J A → ℕ → (Ledger E J A → Type 0) → Type 0
At {E} {J} {A} rack at P = (l : Ledger E J A) → slice_get rack.slots at ≡ Some l → P l
