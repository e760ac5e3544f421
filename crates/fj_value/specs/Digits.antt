-- Digits and the numbers that they stand for, and two's complement.
use Rattle.std.specs.Prelude.{◌≡◌, ℕ, ◌+◌, ◌-◌, ◌*◌, ◌^◌, ◌<◌, ◌≤◌, true, nat_lt, if◌then◌else◌, List, [], ◌∷◌, length, map, slice_index, All, Option, Some, None, ℤ, pos, negsuc, unsigned_abs}
use Rattle.std.specs.Char.{digit_value, is_digit}
use Rattle.std.specs.List.{list_all}
use Rattle.std.specs.Fmt.{digit_glyph}
use Rattle.std.specs.Int.{int_rem_euclid}
use Rattle.std.specs.Int.Digits.{digits_of}
use Rattle.fj_value.specs.Kind.{FitsBits}

-- the positional value of digits, the highest first
abbrev pub number_of : ℕ → List ℕ → ℕ
number_of base [] = 0
number_of base (d ∷ ds) = d * base ^ length ds + number_of base ds

-- the digits of a number without leading zeros, so that 0 has none
pub record AreDigitsOf (base n : ℕ) (digits : List ℕ) : Type 0 where
  pub below : All (λ d. d < base) digits
  pub value : number_of base digits ≡ n
  pub no_leading_zero : 0 < length digits → 0 < slice_index digits 0

-- each number has exactly one list of digits, which is std's `digits_of`
abbrev pub DigitsAreUnique : Type 0
DigitsAreUnique = (base n : ℕ) → 2 ≤ base → AreDigitsOf base n (digits_of base n) × ((ds : List ℕ) → AreDigitsOf base n ds → ds ≡ digits_of base n)

-- the characters of a number's digits: `0` to `9`, then `A` to `Z`
unfoldable pub numeral : ℕ → ℕ → List ℕ
numeral base n = map (digit_glyph true) (digits_of base n)

-- the number that characters stand for, letters of either case; none where there is none or one is no digit of the base
unfoldable pub number_in : ℕ → List ℕ → Option ℕ
number_in base [] = None
number_in base (c ∷ cs) = if list_all (λ x. is_digit x base) (c ∷ cs) then Some (number_of base (map digit_value (c ∷ cs))) else None

-- what is written for a number that is not 0 is read as that number
abbrev pub NumeralsAreRead : Type 0
NumeralsAreRead = (base n : ℕ) → 2 ≤ base → base ≤ 36 → 0 < n → number_in base (numeral base n) ≡ Some n

-- two's complement: the remainder of a number's division by 2 ^ bits
unfoldable pub twos_complement : ℕ → ℤ → ℕ
twos_complement bits z = unsigned_abs (int_rem_euclid z (pos (2 ^ bits)))

-- the number whose two's complement this is
unfoldable pub from_twos_complement : ℕ → ℕ → ℤ
from_twos_complement bits n = if nat_lt n (2 ^ (bits - 1)) then pos n else negsuc (2 ^ bits - 1 - n)

-- numbers of so many bits, and the remainders that stand for them, belong to one another
pub record IsTwosComplement (bits : ℕ) : Type 0 where
  pub below : (z : ℤ) → twos_complement bits z < 2 ^ bits
  pub fits : (n : ℕ) → n < 2 ^ bits → FitsBits bits (from_twos_complement bits n)
  pub back : (z : ℤ) → FitsBits bits z → from_twos_complement bits (twos_complement bits z) ≡ z
  pub forth : (n : ℕ) → n < 2 ^ bits → twos_complement bits (from_twos_complement bits n) ≡ n

abbrev pub TwosComplementIsExact : Type 0
TwosComplementIsExact = (bits : ℕ) → 0 < bits → IsTwosComplement bits
