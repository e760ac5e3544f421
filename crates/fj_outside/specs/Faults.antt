-- When a count of faults has risen.
use Rattle.std.specs.Prelude.{◌≡◌, ℕ, ◌+◌, ◌-◌, ◌^◌, ◌<◌, ◌≤◌, ◌⊎◌, ◌↔◌, min}

-- now is greater than before, or stands at the end of u64
abbrev pub Rose : ℕ → ℕ → Type 0
Rose before now = min (before + 1) (2 ^ 64 - 1) ≤ now

-- in these words: a count of 64 bits rose exactly where it is greater than before, or is the greatest there is
abbrev pub RisesToMoreOrTheEnd : Type 0
RisesToMoreOrTheEnd = (before now : ℕ) → now < 2 ^ 64 → (Rose before now ↔ ((before < now) ⊎ (now ≡ 2 ^ 64 - 1)))
