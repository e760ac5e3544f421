-- Reading digits one by one.
use Rattle.std.proofs.Common.{◌≡◌, ℕ, zero, suc, ℤ, ◌+◌, ◌-◌, ◌*◌, ◌^◌, ◌<◌, ◌≤◌, Bool, true, false, ◌&&◌, cond, min, List, [], ◌∷◌, ◌++◌, length, get_or, take, drop, map, Option, Some, None, sym, ap, ◌∙◌, refl, inl, inr, subst, arith}
use Rattle.std.proofs.lemmas.List.{take_more, take_all, map-append, take-append-drop, nil_from_length}
use Rattle.std.proofs.lemmas.List.Folds.{list_all-append}
use Rattle.std.proofs.lemmas.Bool.Decides.{nat_tests}
use Rattle.std.proofs.lemmas.Bool.{cases_lt}
use Rattle.std.specs.Char.{digit_value, is_digit, is_ascii_digit}
use Rattle.std.specs.List.{list_all}
use Rattle.std.specs.Option.{option_map}
use Rattle.fj_value.specs.Digits.{number_of, number_in}
use Rattle.fj_value.proofs.DigitLaws.{number_of-push, number_in-all, number_in-none}
use Rattle.std.proofs.Math.Nat.{pow-le-pow_right}
use Rattle.fj_value.specs.Kind.{fits_bits}
use Rattle.fj_value.specs.declared.value.Value.TheVariants as value
use Rattle.fj_value.specs.declared.condition.Condition.TheVariants.{Error}
use Rattle.fj_list.specs.declared.constant.Read.{Read}
use Rattle.fj_list.specs.declared.constant.Read.TheVariants as read
use Rattle.fj_value.specs.Reading.{with_sign}
use Rattle.fj_list.specs.Constant.{signed_number, integer_read}
use Rattle.fj_list.specs.Scanned.{Scanned}

pub digit_is : (c : ℕ) → is_ascii_digit c ≡ true → (is_digit c 10 ≡ true) × (digit_value c ≡ c - 48) × (48 ≤ c)
digit_is c e = (grind (arith, nat_tests), grind (arith, nat_tests), grind (arith, nat_tests))

pub no_digit_is : (c : ℕ) → is_ascii_digit c ≡ false → is_digit c 10 ≡ false
no_digit_is c e = grind (arith, nat_tests)

pub scanned_none : (xs : List ℕ) → Scanned (take 0 xs) 0
scanned_none xs = record { digits = refl; number = refl }

most : (a d : ℕ) → min (min (min a (2 ^ 64 - 1) * 10) (2 ^ 64 - 1) + d) (2 ^ 64 - 1) ≡ min (a * 10 + d) (2 ^ 64 - 1)
most a d = omega arith

pub scanned_more : (xs : List ℕ) (i amount : ℕ) → i < length xs → is_ascii_digit (get_or xs i 0) ≡ true → Scanned (take i xs) amount
    → Scanned (take (i + 1) xs) (min (min (amount * 10) (2 ^ 64 - 1) + (get_or xs i 0 - 48)) (2 ^ 64 - 1))
scanned_more xs i amount within digit before =
    let c = get_or xs i 0 in
    let read = take i xs in
    let is = digit_is c digit in
    let more : take (i + 1) xs ≡ read ++ c ∷ [] = take_more xs i 0 within in
    let value : number_of 10 (map digit_value (read ++ c ∷ [])) ≡ number_of 10 (map digit_value read) * 10 + (c - 48) =
    ap (number_of 10) (map-append digit_value read (c ∷ [])) ∙ number_of-push 10 (map digit_value read) (digit_value c) ∙ ap (λ d. number_of 10 (map digit_value read) * 10 + d) is.1 in
    record {
      digits = ap (list_all (λ x. is_digit x 10)) more ∙ list_all-append (λ x. is_digit x 10) read (c ∷ []) ∙ ap (λ b. b && (is_digit c 10 && true)) before.digits ∙ ap (λ b. b && true) is.0;
      number = ap (λ a. min (min (a * 10) (2 ^ 64 - 1) + (c - 48)) (2 ^ 64 - 1)) before.number ∙ most (number_of 10 (map digit_value read)) (c - 48)
          ∙ ap (λ n. min n (2 ^ 64 - 1)) (sym (ap (λ ys. number_of 10 (map digit_value ys)) more ∙ value));
    }

false_behind : (b : Bool) → (b && (false && true)) ≡ false
false_behind true = refl
false_behind false = refl

-- a character that is no digit
pub number_stops : (xs : List ℕ) (i : ℕ) → i < length xs → is_ascii_digit (get_or xs i 0) ≡ false → number_in 10 xs ≡ None
number_stops xs i within other =
    let p : ℕ → Bool = λ x. is_digit x 10 in
    let c = get_or xs i 0 in
    let front : list_all p (take (i + 1) xs) ≡ false =
    ap (list_all p) (take_more xs i 0 within) ∙ list_all-append p (take i xs) (c ∷ []) ∙ ap (λ b. list_all p (take i xs) && (b && true)) (no_digit_is c other) ∙ false_behind (list_all p (take i xs)) in
    number_in-none 10 xs (ap (list_all p) (sym (take-append-drop (i + 1) xs)) ∙ list_all-append p (take (i + 1) xs) (drop (i + 1) xs) ∙ ap (λ b. b && list_all p (drop (i + 1) xs)) front)

-- the whole list
pub number_ends : (xs : List ℕ) (i amount : ℕ) → 0 < length xs → length xs ≤ i → Scanned (take i xs) amount → Some amount ≡ option_map (λ n. min n (2 ^ 64 - 1)) (number_in 10 xs)
number_ends xs i amount some end before =
    let P : List ℕ → Type 0 = λ ys. Scanned ys amount in
    let all = subst P (take_all i xs end) before in
    ap (λ n. Some n) all.number ∙ sym (ap (option_map (λ n. min n (2 ^ 64 - 1))) (number_in-all 10 xs some all.digits))

pub number_in-nil : number_in 10 [] ≡ None
unfolding number_in
number_in-nil = refl

pub number_empty : (xs : List ℕ) → length xs ≡ 0 → None ≡ option_map (λ n. min n (2 ^ 64 - 1)) (number_in 10 xs)
number_empty xs e = sym (ap (λ ys. option_map (λ n. min n (2 ^ 64 - 1)) (number_in 10 ys)) (nil_from_length xs e) ∙ ap (option_map (λ n. min n (2 ^ 64 - 1))) number_in-nil)

pub number_wrong : (xs : List ℕ) (i : ℕ) → i < length xs → is_ascii_digit (get_or xs i 0) ≡ false → None ≡ option_map (λ n. min n (2 ^ 64 - 1)) (number_in 10 xs)
number_wrong xs i within other = sym (ap (option_map (λ n. min n (2 ^ 64 - 1))) (number_stops xs i within other))

-- the number behind what was read
pub map_some : (o : Option ℕ) (count : ℕ) → Some count ≡ option_map (λ n. min n (2 ^ 64 - 1)) o → (n : ℕ) × (o ≡ Some n) × (count ≡ min n (2 ^ 64 - 1))
map_some None count e = absurd (cc)
map_some (Some n) count e = (n, refl, cc)

pub map_none : (o : Option ℕ) → None ≡ option_map (λ n. min n (2 ^ 64 - 1)) o → o ≡ None
map_none None e = refl
map_none (Some n) e = absurd (cc)

-- a number beyond 64 bits has too many bits with any sign
pub half_small : (bits : ℕ) → bits ≤ 64 → 2 ^ (bits - 1) ≤ 2 ^ 63
half_small bits few = pow-le-pow_right {n = 2} (omega arith) {i = bits - 1} {j = 63} (omega arith)

unfit : (bits n : ℕ) (negative : Bool) → bits ≤ 64 → 2 ^ 64 - 1 ≤ n → fits_bits bits (with_sign negative n) ≡ false
unfit bits n false few great = let half = half_small bits few in grind (arith, nat_tests)
unfit bits zero true few great = absurd (omega arith)
unfit bits (suc n) true few great = let half = half_small bits few in grind (arith, nat_tests)

sign_most : (bits n : ℕ) (negative : Bool) → bits ≤ 64 → integer_read bits (Some (with_sign negative (min n (2 ^ 64 - 1)))) ≡ integer_read bits (Some (with_sign negative n))
sign_most bits n negative few =
    let read_of : Bool → ℤ → Read = λ b z. cond b (read.Defined (value.Int z)) (read.Wrong (Error 14)) in
    elim (cases_lt n (2 ^ 64 - 1)) [
      | inl h ↦ let same : min n (2 ^ 64 - 1) ≡ n = omega arith in ap (λ k. integer_read bits (Some (with_sign negative k))) same
      | inr h ↦
          let m = min n (2 ^ 64 - 1) in
          ap (λ b. read_of b (with_sign negative m)) (unfit bits m negative few (omega arith))
          ∙ sym (ap (λ b. read_of b (with_sign negative n)) (unfit bits n negative few h))
    ]

pub signed_read : (bits amount : ℕ) (negative : Bool) (digits : List ℕ) → bits ≤ 64 → Some amount ≡ option_map (λ n. min n (2 ^ 64 - 1)) (number_in 10 digits)
    → integer_read bits (Some (with_sign negative amount)) ≡ integer_read bits (signed_number negative digits)
signed_read bits amount negative digits few number =
    let found = map_some (number_in 10 digits) amount number in
    ap (λ k. integer_read bits (Some (with_sign negative k))) found.2
    ∙ sign_most bits found.0 negative few
    ∙ sym (ap (λ (o : Option ℕ). integer_read bits (option_map (with_sign negative) o)) found.1)

pub unsigned_wrong : (bits : ℕ) (negative : Bool) (digits : List ℕ) → None ≡ option_map (λ n. min n (2 ^ 64 - 1)) (number_in 10 digits) → read.Wrong (Error 13) ≡ integer_read bits (signed_number negative digits)
unsigned_wrong bits negative digits number = sym (ap (λ (o : Option ℕ). integer_read bits (option_map (with_sign negative) o)) (map_none (number_in 10 digits) number))
