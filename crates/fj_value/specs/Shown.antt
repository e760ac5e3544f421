-- How values are shown: the letter of a truth value, and the sign in front of the digits of a number.
use Rattle.std.specs.Prelude.{ℕ, ℤ, pos, negsuc, Bool, if◌then◌else◌, List, [], ◌∷◌}

-- `T` or `F` (10.6.2)
abbrev pub letter : Bool → ℕ
letter truth = if truth then 84 else 70

-- a minus, or a plus sign under SIGN='PLUS' (10.6.1.1, 10.7.4)
abbrev pub sign : Bool → ℤ → List ℕ
sign plus (pos n) = if plus then 43 ∷ [] else []
sign plus (negsuc n) = 45 ∷ []
