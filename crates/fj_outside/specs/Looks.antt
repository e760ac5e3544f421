-- Looks, one after the other, until one answers yes.
use Rattle.std.specs.Prelude.{ℕ, ◌+◌, ◌<◌, Bool, true, false}

-- so many looks one after the other answered no
pub data AreInVain {L : Type 0} (answers : L → Bool → L → Type 0) (first : L) : ℕ → L → Type 0 where
  none : AreInVain answers first 0 first
  one_more : {n : ℕ} {before after : L} → AreInVain answers first n before → answers before false after → AreInVain answers first (n + 1) after

-- looks went on until one answered yes, but so many at most; whether one did
abbrev pub LooksFor : {L : Type 0} → (L → Bool → L → Type 0) → L → ℕ → Bool → Type 0
LooksFor {L} answers first turns true = (n : ℕ) × (before : L) × (after : L) × (n < turns) × AreInVain answers first n before × answers before true after
LooksFor {L} answers first turns false = (last : L) × AreInVain answers first turns last
