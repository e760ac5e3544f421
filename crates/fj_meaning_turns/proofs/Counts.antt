-- How many jobs were given and are not told.
use Rattle.std.proofs.Common.{◌≡◌, ℕ, zero, suc, ◌+◌, ◌-◌, ◌<◌, ◌≤◌, List, [], ◌∷◌, length, get_or, set, arith}

abbrev pub left_over : List ℕ → List ℕ → ℕ
left_over [] told = 0
left_over (s ∷ sent) [] = 0
left_over (s ∷ sent) (t ∷ told) = (s - t) + left_over sent told

pub left_sent : (sent told : List ℕ) (k : ℕ) → k < length sent → k < length told → get_or told k 0 ≤ get_or sent k 0 → left_over (set sent k (get_or sent k 0 + 1)) told ≡ left_over sent told + 1
left_sent [] told k h g w = absurd (omega (arith, h))
left_sent (s ∷ sent) [] k h g w = absurd (omega (arith, g))
left_sent (s ∷ sent) (t ∷ told) zero h g w = omega (arith, w)
left_sent (s ∷ sent) (t ∷ told) (suc k) h g w = omega (arith, left_sent sent told k (omega (arith, h)) (omega (arith, g)) w)

pub left_told : (sent told : List ℕ) (k : ℕ) → k < length sent → k < length told → get_or told k 0 < get_or sent k 0 → left_over sent (set told k (get_or told k 0 + 1)) + 1 ≡ left_over sent told
left_told [] told k h g w = absurd (omega (arith, h))
left_told (s ∷ sent) [] k h g w = absurd (omega (arith, g))
left_told (s ∷ sent) (t ∷ told) zero h g w = omega (arith, w)
left_told (s ∷ sent) (t ∷ told) (suc k) h g w = omega (arith, left_told sent told k (omega (arith, h)) (omega (arith, g)) w)

pub some_inside : (xs : List ℕ) (k n : ℕ) → n < get_or xs k 0 → k < length xs
some_inside [] k n h = absurd (omega (arith, h))
some_inside (x ∷ xs) zero n h = omega (arith)
some_inside (x ∷ xs) (suc k) n h = omega (arith, some_inside xs k n h)
