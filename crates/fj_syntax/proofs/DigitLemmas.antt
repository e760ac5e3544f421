-- The number that up to 19 digits write.
use Rattle.std.proofs.Common.{◌≡◌, ℕ, ◌+◌, ◌-◌, ◌*◌, ◌<◌, ◌≤◌, true, List, length, take, get_or, arith, rules}
use Rattle.std.specs.Char.{is_ascii_digit, digit_value}
use Rattle.std.specs.List.{AllPass, list_all}
use Rattle.std.specs.Str.Parse.{digits_value}
use Rattle.std.proofs.lemmas.Bool.Decides.{nat_tests}
use Rattle.std.proofs.lemmas.Int.Digits.{digits_value_more}
use Rattle.std.proofs.lemmas.List.Sums.{list_all-from_AllPass}
use Rattle.std.proofs.lemmas.Str.{digit_value_digit}
use Rattle.std.proofs.lemmas.Str.Parse.{IsNumeralModel, numerals_by_value, digits_value_short, digits_value-take-le}

own : IsNumeralModel (λ ds. list_all is_ascii_digit ds ≡ true) (digits_value 10)
own = numerals_by_value _ (search rules)

digit_is : (c : ℕ) → is_ascii_digit c ≡ true → (48 ≤ c) × (c ≤ 57)
digit_is c h = (grind (arith, nat_tests), grind (arith, nat_tests))

-- one digit more
pub record IsMore (digits : List ℕ) (i amount : ℕ) : Type 0 where
  pub digit : 48 ≤ get_or digits i 0
  pub product : amount * 10 < 10000000000000000000
  pub value : amount * 10 + (get_or digits i 0 - 48) ≡ digits_value 10 (take (i + 1) digits)
  pub small : amount * 10 + (get_or digits i 0 - 48) < 10000000000000000000

pub digit_more : (digits : List ℕ) (i amount : ℕ) → AllPass is_ascii_digit digits → length digits ≤ 19 → i < length digits → amount ≡ digits_value 10 (take i digits) → IsMore digits i amount
digit_more digits i amount all short h e =
    let digit = digit_is (get_or digits i 0) (all i 0 h) in
    let value : digit_value (get_or digits i 0) ≡ get_or digits i 0 - 48 = omega (arith, digit_value_digit _ digit) in
    let more : amount * 10 + (get_or digits i 0 - 48) ≡ digits_value 10 (take (i + 1) digits) = omega (arith, digits_value_more 10 digits i h, value) in
    let small : digits_value 10 (take (i + 1) digits) < 10000000000000000000 =
    omega (arith, digits_value-take-le 10 digits (i + 1) (omega arith), digits_value_short own digits 19 (list_all-from_AllPass _ digits all) short) in
    record { digit = digit.0; product = omega arith; value = more; small = omega arith }
