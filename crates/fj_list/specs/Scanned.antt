-- Digits that were read one by one.
use Rattle.std.specs.Prelude.{◌≡◌, ℕ, ◌-◌, ◌^◌, true, min, List, map}
use Rattle.std.specs.Char.{digit_value, is_digit}
use Rattle.std.specs.List.{list_all}
use Rattle.fj_value.specs.Digits.{number_of}

-- they are digits, and this is their number as far as 64 bits hold it
pub record Scanned (read : List ℕ) (amount : ℕ) : Type 0 where
  pub digits : list_all (λ x. is_digit x 10) read ≡ true
  pub number : amount ≡ min (number_of 10 (map digit_value read)) (2 ^ 64 - 1)
