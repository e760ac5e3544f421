-- The number of digits as the machine holds it.
use Rattle.fj_value.specs.Kind.{fits_bits}
use Rattle.fj_value.specs.Digits.{number_of, from_twos_complement}
use Rattle.std.specs.Char.{digit_value, is_digit}
use Rattle.std.specs.List.{list_all}
use Rattle.std.specs.Prelude.{◌≡◌, ℕ, ℤ, ◌+◌, ◌*◌, ◌^◌, Bool, true, List, length, map, nat_lt, if◌then◌else◌, Option, Some, None, Result, Ok, Err}
use Rattle.fj_value.specs.declared.condition.Condition.{Condition}
use Rattle.fj_value.specs.declared.condition.Condition.TheVariants.{Error}

-- a number below 2 ^ 64
abbrev pub below_64_bits : ℕ → Option ℕ
below_64_bits n = if nat_lt n (2 ^ 64) then Some n else None

-- the number with one more digit
abbrev pub next_amount : ℕ → ℕ → Option ℕ → Option ℕ
next_amount base digit None = None
next_amount base digit (Some n) = below_64_bits (n * base + digit)

-- 13 where the characters are no number, and 14 beyond 64 bits
abbrev pub amount_or_condition : Option ℕ → Result ℕ Condition
amount_or_condition None = Err (Error 13)
amount_or_condition (Some n) = if nat_lt n (2 ^ 64) then Ok n else Err (Error 14)

-- 13 where the characters are no number, and 14 where it has more bits
abbrev pub integer_or_condition : ℕ → Option ℤ → Result ℤ Condition
integer_or_condition bits None = Err (Error 13)
integer_or_condition bits (Some z) = if fits_bits bits z then Ok z else Err (Error 14)

abbrev pub bits_or_condition : ℕ → Option ℕ → Result ℤ Condition
bits_or_condition bits None = Err (Error 13)
bits_or_condition bits (Some n) = if nat_lt n (2 ^ bits) then Ok (from_twos_complement bits n) else Err (Error 14)

-- the number of these bits
abbrev pub from_bits : ℕ → ℕ → Option ℤ
from_bits bits n = if nat_lt n (2 ^ bits) then Some (from_twos_complement bits n) else None

-- what is known once these characters were read: they are digits, whether there are any, and the number as far as it fits
pub record Scanned (base : ℕ) (read : List ℕ) (some : Bool) (amount : Option ℕ) : Type 0 where
  pub digits : list_all (λ x. is_digit x base) read ≡ true
  pub any : some ≡ nat_lt 0 (length read)
  pub number : amount ≡ below_64_bits (number_of base (map digit_value read))
