-- The numbers of the steps of a format are those that the grammar allows.
use Rattle.std.specs.Prelude.{ℕ, ◌≡◌, ◌≤◌, Option, Some, None, ◌⊎◌}
use Rattle.fj_value.specs.declared.edit.Edit.{Edit}
use Rattle.fj_value.specs.declared.edit.Edit.TheVariants.{Int, Bits, Log, Chars, General}
use Rattle.fj_format.specs.Grammar.{most}
use Rattle.fj_format.specs.Unfolding.{Elementary, edit, tab, left, right}

-- a number that is not 0
abbrev pub IsPositive : ℕ → Type 0
IsPositive n = (1 ≤ n) × (n ≤ 65536)

abbrev pub IsLeastWithin : ℕ → Option ℕ → Type 0
IsLeastWithin w None = Unit {0}
IsLeastWithin w (Some m) = m ≤ most w

abbrev pub IsEditWithin : Edit → Type 0
IsEditWithin (Int w m) = (w ≤ 65536) × IsLeastWithin w m
IsEditWithin (Bits base w m) = ((base ≡ 2) ⊎ ((base ≡ 8) ⊎ (base ≡ 16))) × (w ≤ 65536) × IsLeastWithin w m
IsEditWithin (Log w) = IsPositive w
IsEditWithin (Chars None) = Unit {0}
IsEditWithin (Chars (Some w)) = IsPositive w
IsEditWithin (General w d) = (IsPositive w × (d ≤ 65536)) ⊎ ((w ≡ 0) × (d ≡ 0))

abbrev pub IsStepWithin : Elementary → Type 0
IsStepWithin (edit e) = IsEditWithin e
IsStepWithin (tab n) = IsPositive n
IsStepWithin (left n) = IsPositive n
IsStepWithin (right n) = IsPositive n
IsStepWithin _ = Unit {0}
