-- Lemmas on digits, for the crates above.
use Rattle.std.proofs.Common.{◌≡◌, ℕ, zero, suc, ◌+◌, ◌-◌, ◌*◌, ◌/◌, ◌%◌, ◌^◌, ◌<◌, ◌≤◌, List, [], ◌∷◌, ◌++◌, length, get_or, map, replicate, FitsSigned, refl, sym, true, false, None, rules, inl, inr, Some, mul-pos, ℤ, pos, negsuc, ◌∙◌, ap, arith, append_assoc, append-nil}
use Rattle.std.proofs.Math.Nat.{pow-suc, pow-zero, pow-le-pow_left}
use Rattle.std.proofs.lemmas.Nat.{div-mul-add, mod-mul-add, mod_below, pow_pos}
use Rattle.std.proofs.lemmas.Bool.{cases_lt}
use Rattle.std.proofs.lemmas.Int.{ints}
use Rattle.std.proofs.lemmas.List.{length-map, map-append}
use Rattle.std.specs.List.{All, list_all}
use Rattle.std.specs.Char.{digit_value, is_digit}
use Rattle.std.specs.Fmt.{digit_glyph, decimal}
use Rattle.std.specs.Int.{cast_unsigned, w64}
use Rattle.std.proofs.lemmas.Fmt.{decimal-digits_of}
use Rattle.std.proofs.lemmas.Bool.Decides.{nat_tests}
use Rattle.std.specs.Int.Digits.{digits_of, number_from_digits, number_from_digits_after, AllBelowBase}
use Rattle.std.proofs.lemmas.Int.Digits.{digits_of_step, all_below_base_digits_of, first_digits_of, length-digits_of_step, length-digits_of-le, number_digits_of, number_push}
use Rattle.std.proofs.lemmas.List.Elements.{All-head, All-tail, All-from_recursion}
use Rattle.fj_value.specs.Digits.{number_of, AreDigitsOf, numeral, number_in, twos_complement, from_twos_complement, IsTwosComplement}
use Rattle.fj_value.specs.Kind.{FitsBits, fits_bits}

one_more : (base n d place next rest : ℕ) → next ≡ place * base → (n * base + d) * place + rest ≡ n * next + (d * place + rest)
one_more base n d place next rest e = rw e (omega arith)

still_positive : (base n d : ℕ) → 2 ≤ base → 0 < n → 0 < n * base + d
still_positive base n d low some = let b : 0 < base = omega arith in omega (arith, mul-pos some b)

-- the value does not depend on the end from which it is counted
pub number_after_is : (base n : ℕ) (ds : List ℕ) → number_from_digits_after base n ds ≡ n * base ^ length ds + number_of base ds
number_after_is base n [] = grind (arith, pow-zero base)
number_after_is base n (d ∷ ds) = number_after_is base (n * base + d) ds ∙ one_more base n d (base ^ length ds) (base ^ suc (length ds)) (number_of base ds) (pow-suc base (length ds))

pub number_of_is : (base : ℕ) (ds : List ℕ) → number_of base ds ≡ number_from_digits base ds
number_of_is base ds = omega (arith, number_after_is base 0 ds)

-- digits of a base, by recursion
below_by_recursion : (base : ℕ) (ds : List ℕ) → All (λ d. d < base) ds → AllBelowBase base ds
below_by_recursion base [] h = tt
below_by_recursion base (d ∷ ds) h = (All-head (λ d. d < base) d ds h, below_by_recursion base ds (All-tail (λ d. d < base) d ds h))

-- a digit alone
digits_of-digit : (base d : ℕ) → 2 ≤ base → 0 < d → d < base → digits_of base d ≡ d ∷ []
digits_of-digit base d low some below =
    let front : d / base ≡ 0 = grind arith in
    let last : d % base ≡ d = grind arith in
    digits_of_step base d low some ∙ cc (front, last)

-- more digits behind those of a number
digits_of-more : (base n : ℕ) (ds : List ℕ) → 2 ≤ base → 0 < n → AllBelowBase base ds → digits_of base (number_from_digits_after base n ds) ≡ digits_of base n ++ ds
digits_of-more base n [] low some below = sym (append-nil (digits_of base n))
digits_of-more base n (d ∷ ds) low some below =
    let positive = still_positive base n d low some in
    digits_of-more base (n * base + d) ds low positive below.1
    ∙ ap (λ xs. xs ++ ds) (digits_of_step base (n * base + d) low positive)
    ∙ ap (λ k. (digits_of base k ++ ((n * base + d) % base ∷ [])) ++ ds) (div-mul-add n base d below.0)
    ∙ ap (λ k. (digits_of base n ++ (k ∷ [])) ++ ds) (mod-mul-add n base d below.0)
    ∙ append_assoc (digits_of base n) (d ∷ []) ds

leads : (base n : ℕ) → 2 ≤ base → 0 < length (digits_of base n) → 0 < get_or (digits_of base n) 0 0
leads base zero low some = absurd (omega arith)
leads base (suc n) low some = first_digits_of base (suc n) low (omega arith)

pub digits_are : (base n : ℕ) → 2 ≤ base → AreDigitsOf base n (digits_of base n)
digits_are base n low = record {
  below = All-from_recursion (λ d. d < base) (digits_of base n) (all_below_base_digits_of base n low);
  value = number_of_is base (digits_of base n) ∙ number_digits_of base n low;
  no_leading_zero = leads base n low;
}

pub digits_only : (base n : ℕ) (ds : List ℕ) → 2 ≤ base → AreDigitsOf base n ds → ds ≡ digits_of base n
digits_only base n [] low are = ap (digits_of base) are.value
digits_only base n (d ∷ ds) low are =
    let below : AllBelowBase base (d ∷ ds) = below_by_recursion base (d ∷ ds) are.below in
    let some : 0 < d = are.no_leading_zero (omega arith) in
    let zero_first : 0 * base + d ≡ d = omega arith in
    sym (sym (ap (digits_of base) are.value) ∙ ap (digits_of base) (number_of_is base (d ∷ ds))
    ∙ ap (λ k. digits_of base (number_from_digits_after base k ds)) zero_first
    ∙ digits_of-more base d ds low some below.1
    ∙ ap (λ xs. xs ++ ds) (digits_of-digit base d low some below.0))

-- what a digit's character stands for
digit_value-glyph : (d : ℕ) → d < 36 → digit_value (digit_glyph true d) ≡ d
digit_value-glyph d h = grind (arith, nat_tests)

pub digit_values : (base : ℕ) (ds : List ℕ) → base ≤ 36 → AllBelowBase base ds → map digit_value (map (digit_glyph true) ds) ≡ ds
digit_values base [] high below = refl
digit_values base (d ∷ ds) high below =
    let small : d < 36 = omega (arith, below.0) in
    cc (digit_value-glyph d small, digit_values base ds high below.1)

pub glyphs_are_digits : (base : ℕ) (ds : List ℕ) → base ≤ 36 → AllBelowBase base ds → list_all (λ x. is_digit x base) (map (digit_glyph true) ds) ≡ true
glyphs_are_digits base [] high below = refl
glyphs_are_digits base (d ∷ ds) high below =
    let small : d < 36 = omega (arith, below.0) in
    let first : is_digit (digit_glyph true d) base ≡ true = rw (digit_value-glyph d small) (search (rules, below.0)) in
    let rest = glyphs_are_digits base ds high below.1 in
    rw first rest

-- the digits of a number above 0, with any zeros in front, are read as that number
pub number_in-all : (base : ℕ) (cs : List ℕ) → 0 < length cs → list_all (λ x. is_digit x base) cs ≡ true → number_in base cs ≡ Some (number_of base (map digit_value cs))
unfolding number_in
number_in-all base [] some digits = absurd (omega arith)
number_in-all base (c ∷ cs) some digits = rw digits refl

pub numeral_values : (base n : ℕ) → 2 ≤ base → base ≤ 36 → number_of base (map digit_value (numeral base n)) ≡ n
unfolding numeral
numeral_values base n low high =
    ap (number_of base) (digit_values base (digits_of base n) high (all_below_base_digits_of base n low))
    ∙ number_of_is base (digits_of base n) ∙ number_digits_of base n low

pub numeral_digits : (base n : ℕ) → 2 ≤ base → base ≤ 36 → list_all (λ x. is_digit x base) (numeral base n) ≡ true
unfolding numeral
numeral_digits base n low high = glyphs_are_digits base (digits_of base n) high (all_below_base_digits_of base n low)

pub numeral_some : (base n : ℕ) → 2 ≤ base → 0 < n → 0 < length (numeral base n)
unfolding numeral
numeral_some base n low some = rw length-map (rw (length-digits_of_step base n low some) (omega arith))

pub number_in-numeral : (base n : ℕ) → 2 ≤ base → base ≤ 36 → 0 < n → number_in base (numeral base n) ≡ Some n
number_in-numeral base n low high some =
    number_in-all base (numeral base n) (numeral_some base n low some) (numeral_digits base n low high)
    ∙ ap (λ k. Some k) (numeral_values base n low high)

pub two_halves : (bits : ℕ) → 0 < bits → 2 ^ bits ≡ 2 ^ (bits - 1) + 2 ^ (bits - 1)
two_halves zero some = absurd (omega arith)
two_halves (suc bits) some = rw pow-suc (let e : suc bits - 1 ≡ bits = omega arith in rw e (omega arith))

pub from_low : (bits n : ℕ) → n < 2 ^ (bits - 1) → from_twos_complement bits n ≡ pos n
unfolding from_twos_complement
from_low bits n low = grind (arith, nat_tests)

pub from_high : (bits n : ℕ) → 2 ^ (bits - 1) ≤ n → from_twos_complement bits n ≡ negsuc (2 ^ bits - 1 - n)
unfolding from_twos_complement
from_high bits n high = grind (arith, nat_tests)

of_pos : (bits n : ℕ) → n < 2 ^ bits → twos_complement bits (pos n) ≡ n
unfolding twos_complement
of_pos bits n h = grind arith

of_negsuc : (bits n : ℕ) → n < 2 ^ bits → twos_complement bits (negsuc n) ≡ 2 ^ bits - 1 - n
unfolding twos_complement
of_negsuc bits n h = grind arith

pub below_bits : (bits : ℕ) (z : ℤ) → twos_complement bits z < 2 ^ bits
unfolding twos_complement
below_bits bits (pos n) = mod_below n (2 ^ bits) (pow_pos bits)
below_bits bits (negsuc n) = omega (arith, pow_pos bits)

low_fits : (bits n : ℕ) → n < 2 ^ (bits - 1) → FitsBits bits (pos n)
low_fits bits n h = (omega (arith, ints), omega (arith, ints))

high_fits : (bits n : ℕ) → 0 < bits → n < 2 ^ bits → 2 ^ (bits - 1) ≤ n → FitsBits bits (negsuc (2 ^ bits - 1 - n))
high_fits bits n some below high = (omega (arith, ints, two_halves bits some), omega (arith, ints))

pub from_fits : (bits n : ℕ) → 0 < bits → n < 2 ^ bits → FitsBits bits (from_twos_complement bits n)
from_fits bits n some below = elim (cases_lt n (2 ^ (bits - 1))) [
  | inl low ↦ rw (from_low bits n low) (low_fits bits n low)
  | inr high ↦ rw (from_high bits n high) (high_fits bits n some below high)
]

pos_fits : (bits n : ℕ) → FitsBits bits (pos n) → n < 2 ^ (bits - 1)
pos_fits bits n h = omega (arith, ints, h.1)

negsuc_fits : (bits n : ℕ) → FitsBits bits (negsuc n) → n < 2 ^ (bits - 1)
negsuc_fits bits n h = omega (arith, ints, h.0)

pub back_from_bits : (bits : ℕ) (z : ℤ) → 0 < bits → FitsBits bits z → from_twos_complement bits (twos_complement bits z) ≡ z
back_from_bits bits (pos n) some h =
    let low = pos_fits bits n h in
    let below : n < 2 ^ bits = omega (arith, two_halves bits some) in
    rw (of_pos bits n below) (from_low bits n low)
back_from_bits bits (negsuc n) some h =
    let low = negsuc_fits bits n h in
    let below : n < 2 ^ bits = omega (arith, two_halves bits some) in
    let high : 2 ^ (bits - 1) ≤ 2 ^ bits - 1 - n = omega (arith, two_halves bits some) in
    let twice : 2 ^ bits - 1 - (2 ^ bits - 1 - n) ≡ n = omega arith in
    rw (of_negsuc bits n below) (from_high bits (2 ^ bits - 1 - n) high ∙ ap negsuc twice)

pub forth_to_bits : (bits n : ℕ) → 0 < bits → n < 2 ^ bits → twos_complement bits (from_twos_complement bits n) ≡ n
forth_to_bits bits n some below = elim (cases_lt n (2 ^ (bits - 1))) [
  | inl low ↦ rw (from_low bits n low) (of_pos bits n below)
  | inr high ↦
      let small : 2 ^ bits - 1 - n < 2 ^ bits = omega arith in
      let twice : 2 ^ bits - 1 - (2 ^ bits - 1 - n) ≡ n = omega arith in
      rw (from_high bits n high) (of_negsuc bits (2 ^ bits - 1 - n) small ∙ twice)
]

pub is_twos_complement : (bits : ℕ) → 0 < bits → IsTwosComplement bits
is_twos_complement bits some = record {
  below = below_bits bits;
  fits = λ n. from_fits bits n some;
  back = λ z. back_from_bits bits z some;
  forth = λ n. forth_to_bits bits n some;
}

pub numeral-zero : (base : ℕ) → numeral base 0 ≡ []
unfolding numeral
numeral-zero base = refl

-- the last digit stands for the remainder
pub numeral-step : (base n : ℕ) → 2 ≤ base → 0 < n → numeral base n ≡ numeral base (n / base) ++ digit_glyph true (n % base) ∷ []
unfolding numeral
numeral-step base n low some = ap (map (digit_glyph true)) (digits_of_step base n low some) ∙ map-append (digit_glyph true) (digits_of base (n / base)) (n % base ∷ [])

pub length-numeral_step : (base n : ℕ) → 2 ≤ base → 0 < n → length (numeral base n) ≡ length (numeral base (n / base)) + 1
unfolding numeral
length-numeral_step base n low some = rw length-map (rw length-map (length-digits_of_step base n low some))

-- so many bits are at most so many digits
pub length-numeral-le : (base k n : ℕ) → 2 ≤ base → n < 2 ^ k → length (numeral base n) ≤ k
unfolding numeral
length-numeral-le base k n low below = rw length-map (length-digits_of-le base k n low (omega (arith, pow-le-pow_left low k)))

decimal_glyphs : (ds : List ℕ) → AllBelowBase 10 ds → map (λ d. 48 + d) ds ≡ map (digit_glyph true) ds
decimal_glyphs [] below = refl
decimal_glyphs (d ∷ ds) below =
    let first : 48 + d ≡ digit_glyph true d = search (rules, below.0) in
    cc (first, decimal_glyphs ds below.1)

-- std writes the same in decimal
pub numeral-decimal : (n : ℕ) → 0 < n → n < 2 ^ 64 → numeral 10 n ≡ decimal n
unfolding numeral
numeral-decimal n some below = sym (decimal-digits_of n some below ∙ decimal_glyphs (digits_of 10 n) (all_below_base_digits_of 10 n (omega arith)))

-- two's complement is how the machine holds a number
pub twos_complement-cast : (z : ℤ) → FitsSigned w64 z → twos_complement 64 z ≡ cast_unsigned w64 z
twos_complement-cast (pos n) h = of_pos 64 n (omega (arith, ints))
twos_complement-cast (negsuc n) h = of_negsuc 64 n (omega (arith, ints)) ∙ omega (arith, ints)

pub twos_complement-low : (z : ℤ) → FitsSigned w64 z → twos_complement 32 z ≡ cast_unsigned w64 z % 2 ^ 32
unfolding twos_complement
twos_complement-low (pos n) h = refl
twos_complement-low (negsuc n) h = omega (arith, ints)

-- one more digit behind
pub number_of-push : (base : ℕ) (ds : List ℕ) (d : ℕ) → number_of base (ds ++ (d ∷ [])) ≡ number_of base ds * base + d
number_of-push base ds d =
    number_of_is base (ds ++ (d ∷ [])) ∙ number_push base ds d ∙ ap (λ k. k * base + d) (sym (number_of_is base ds))

-- a character that is no digit
pub number_in-none : (base : ℕ) (cs : List ℕ) → list_all (λ x. is_digit x base) cs ≡ false → number_in base cs ≡ None
unfolding number_in
number_in-none base [] h = refl
number_in-none base (c ∷ cs) h = rw h refl

-- zeros in front change no number
pub number_of-zeros : (base count : ℕ) (ds : List ℕ) → number_of base (replicate count 0 ++ ds) ≡ number_of base ds
number_of-zeros base zero ds = refl
number_of-zeros base (suc count) ds = omega (arith, number_of-zeros base count ds)

-- the test of `FitsBits` passes
pub fits_bits-true : (bits : ℕ) (z : ℤ) → FitsBits bits z → fits_bits bits z ≡ true
fits_bits-true bits (pos n) h = let low = pos_fits bits n h in grind (arith, nat_tests)
fits_bits-true bits (negsuc n) h = let low = negsuc_fits bits n h in grind (arith, nat_tests)

-- and where it passes the number fits
pub fits_bits-fits : (bits : ℕ) (z : ℤ) → fits_bits bits z ≡ true → FitsBits bits z
fits_bits-fits bits (pos n) e = let low : n < 2 ^ (bits - 1) = grind (arith, nat_tests) in (omega (arith, ints), omega (arith, ints))
fits_bits-fits bits (negsuc n) e = let low : n < 2 ^ (bits - 1) = grind (arith, nat_tests) in (omega (arith, ints), omega (arith, ints))
