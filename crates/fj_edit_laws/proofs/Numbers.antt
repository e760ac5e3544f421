-- Digits with zeros in front are read as their number.
use Rattle.std.proofs.Common.{◌≡◌, ◌≢◌, ℕ, zero, suc, ◌-◌, ◌<◌, ◌≤◌, Bool, true, false, ◌&&◌, eqb, List, [], ◌∷◌, ◌++◌, length, map, replicate, Option, Some, refl, ap, ◌∙◌, arith, rules}
use Rattle.std.specs.Char.{digit_value, is_digit}
use Rattle.std.specs.List.{list_all}
use Rattle.std.proofs.lemmas.List.{length-append}
use Rattle.std.proofs.lemmas.List.Folds.{list_all-append}
use Rattle.std.proofs.lemmas.Bool.{false≢true}
use Rattle.std.proofs.lemmas.Bool.Decides.{nat_tests}
use Rattle.fj_value.specs.Digits.{number_of, numeral, number_in}
use Rattle.fj_value.proofs.DigitLaws.{number_in-all, numeral_digits, numeral_values, numeral_some, number_of-zeros}
use Rattle.fj_edit_in.specs.InputField.{blanks_read}
use Rattle.fj_edit_out.specs.OutputField.{least_digits, zero_filled}

both_left : (a b : Bool) → (a && b) ≡ true → a ≡ true
both_left true b h = refl
both_left false b h = absurd (false≢true h)

both_right : (a b : Bool) → (a && b) ≡ true → b ≡ true
both_right true b h = h
both_right false b h = absurd (false≢true h)

pub first_digit : (base d : ℕ) (ds : List ℕ) → list_all (λ x. is_digit x base) (d ∷ ds) ≡ true → is_digit d base ≡ true
first_digit base d ds h = both_left (is_digit d base) (list_all (λ x. is_digit x base) ds) h

-- a digit is no blank and no sign
value_below : (base c : ℕ) → is_digit c base ≡ true → digit_value c < base
value_below base c h = grind (arith, nat_tests)

pub no_blank : (base c : ℕ) → base ≤ 36 → is_digit c base ≡ true → c ≢ 32
no_blank base c high h = λ e. let below = value_below base c h in let value : digit_value c ≡ 36 = ap digit_value e in absurd (omega arith)

pub no_plus : (base c : ℕ) → base ≤ 36 → is_digit c base ≡ true → c ≢ 43
no_plus base c high h = λ e. let below = value_below base c h in let value : digit_value c ≡ 36 = ap digit_value e in absurd (omega arith)

pub no_minus : (base c : ℕ) → base ≤ 36 → is_digit c base ≡ true → c ≢ 45
no_minus base c high h = λ e. let below = value_below base c h in let value : digit_value c ≡ 36 = ap digit_value e in absurd (omega arith)

other : (c d : ℕ) → c ≢ d → eqb c d ≡ false
other c d h = grind (arith, nat_tests)

-- digits are read as they are
blanks_read-digits : (base : ℕ) (zero : Bool) (cs : List ℕ) → base ≤ 36 → list_all (λ x. is_digit x base) cs ≡ true → blanks_read zero cs ≡ cs
unfolding blanks_read
blanks_read-digits base true [] high digits = refl
blanks_read-digits base false [] high digits = refl
blanks_read-digits base true (c ∷ cs) high digits =
    let first = other c 32 (no_blank base c high (both_left (is_digit c base) (list_all (λ x. is_digit x base) cs) digits)) in
    let rest = blanks_read-digits base true cs high (both_right (is_digit c base) (list_all (λ x. is_digit x base) cs) digits) in
    rw first (ap (λ xs. c ∷ xs) rest)
blanks_read-digits base false (c ∷ cs) high digits =
    let first = other c 32 (no_blank base c high (both_left (is_digit c base) (list_all (λ x. is_digit x base) cs) digits)) in
    let rest = blanks_read-digits base false cs high (both_right (is_digit c base) (list_all (λ x. is_digit x base) cs) digits) in
    rw first (ap (λ xs. c ∷ xs) rest)

zeros_digits : (base count : ℕ) → 1 ≤ base → list_all (λ x. is_digit x base) (replicate count 48) ≡ true
zeros_digits base zero low = refl
zeros_digits base (suc count) low = let first : is_digit 48 base ≡ true = search (rules, low) in rw first (zeros_digits base count low)

pub filled_digits : (base n : ℕ) (m : Option ℕ) → 2 ≤ base → base ≤ 36 → list_all (λ x. is_digit x base) (zero_filled m (numeral base n)) ≡ true
filled_digits base n m low high =
    list_all-append (λ x. is_digit x base) (replicate (least_digits m - length (numeral base n)) 48) (numeral base n)
    ∙ ap (λ b. b && list_all (λ x. is_digit x base) (numeral base n)) (zeros_digits base (least_digits m - length (numeral base n)) (omega arith))
    ∙ numeral_digits base n low high

values-zeros : (count : ℕ) (cs : List ℕ) → map digit_value (replicate count 48 ++ cs) ≡ replicate count 0 ++ map digit_value cs
values-zeros zero cs = refl
values-zeros (suc count) cs = ap (λ xs. 0 ∷ xs) (values-zeros count cs)

-- zeros and digits are read as the number
pub filled_read : (base n : ℕ) (m : Option ℕ) (blank_zero : Bool) → 2 ≤ base → base ≤ 36 → 0 < length (zero_filled m (numeral base n)) → number_in base (blanks_read blank_zero (zero_filled m (numeral base n))) ≡ Some n
filled_read base n m blank_zero low high some =
    let count = least_digits m - length (numeral base n) in
    let digits = filled_digits base n m low high in
    ap (number_in base) (blanks_read-digits base blank_zero (zero_filled m (numeral base n)) high digits)
    ∙ number_in-all base (zero_filled m (numeral base n)) some digits
    ∙ ap (λ k. Some k) (ap (number_of base) (values-zeros count (numeral base n)) ∙ number_of-zeros base count (map digit_value (numeral base n)) ∙ numeral_values base n low high)

-- no digit stands for 0 alone
pub filled_none : (base n : ℕ) (m : Option ℕ) → 2 ≤ base → length (zero_filled m (numeral base n)) ≡ 0 → n ≡ 0
filled_none base zero m low none = refl
filled_none base (suc n) m low none =
    let some = numeral_some base (suc n) low (omega arith) in
    let long = length-append (replicate (least_digits m - length (numeral base (suc n))) 48) (numeral base (suc n)) in
    absurd (omega arith)
