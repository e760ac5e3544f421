-- Reading digits one by one.
use Rattle.std.proofs.Common.{◌≡◌, ◌≢◌, ℕ, ◌+◌, ◌-◌, ◌*◌, ◌^◌, ◌<◌, ◌≤◌, Bool, true, false, not, ◌&&◌, cond, eqb, ltb, List, [], ◌∷◌, ◌++◌, length, get_or, take, drop, map, Option, Some, None, Ok, ok_or, append-nil, subst, inl, inr, ◌⊎◌, refl, sym, ap, ◌∙◌, arith}
use Rattle.std.proofs.lemmas.List.{map-append, take_more, length_push, nil_from_length, take-append-drop, take_all}
use Rattle.std.proofs.lemmas.List.Elements.{filter-append}
use Rattle.std.proofs.lemmas.List.Folds.{list_all-append}
use Rattle.std.proofs.lemmas.Bool.Decides.{nat_tests}
use Rattle.std.proofs.lemmas.Bool.{false≢true, cases_lt}
use Rattle.std.proofs.Math.Nat.{le-mul_of_pos_right}
use Rattle.fj_value.specs.declared.condition.Condition.TheVariants.{Error}
use Rattle.std.specs.Char.{digit_value, is_digit}
use Rattle.std.specs.List.{list_all}
use Rattle.fj_value.specs.Digits.{number_of, number_in}
use Rattle.fj_value.proofs.DigitLaws.{number_of-push, number_in-all, number_in-none}
use Rattle.fj_edit_in.specs.InputField.{blanks_read}
use Rattle.fj_edit_in.specs.Scan.{below_64_bits, next_amount, amount_or_condition, Scanned}

-- a character as a digit
abbrev as_digit : ℕ → ℕ
as_digit c = cond (eqb c 32) 48 c

read-append : (blank_zero : Bool) (xs ys : List ℕ) → blanks_read blank_zero (xs ++ ys) ≡ blanks_read blank_zero xs ++ blanks_read blank_zero ys
unfolding blanks_read
read-append true xs ys = map-append (λ c. cond (eqb c 32) 48 c) xs ys
read-append false xs ys = filter-append (λ c. not (eqb c 32)) xs ys

read-none : (blank_zero : Bool) → blanks_read blank_zero [] ≡ []
unfolding blanks_read
read-none true = refl
read-none false = refl

-- a character that is read, and a blank that is not
read-one : (blank_zero : Bool) (c : ℕ) → (blank_zero ≡ true) ⊎ (c ≢ 32) → blanks_read blank_zero (c ∷ []) ≡ as_digit c ∷ []
unfolding blanks_read
read-one true c h = refl
read-one false c (inl h) = absurd (false≢true h)
read-one false c (inr h) = let other : eqb c 32 ≡ false = grind (arith, nat_tests) in rw other refl

read-blank : (c : ℕ) → c ≡ 32 → blanks_read false (c ∷ []) ≡ []
unfolding blanks_read
read-blank c h = let same : eqb c 32 ≡ true = grind (arith, nat_tests) in rw same refl

read-more : (blank_zero : Bool) (chars : List ℕ) (i : ℕ) → i < length chars → blanks_read blank_zero (take (i + 1) chars) ≡ blanks_read blank_zero (take i chars) ++ blanks_read blank_zero (get_or chars i 0 ∷ [])
read-more blank_zero chars i within = ap (blanks_read blank_zero) (take_more chars i 0 within) ∙ read-append blank_zero (take i chars) (get_or chars i 0 ∷ [])

pub scanned_none : (base : ℕ) (blank_zero : Bool) → Scanned base (blanks_read blank_zero []) false (Some 0)
scanned_none base blank_zero = let P : List ℕ → Type 0 = λ read. Scanned base read false (Some 0) in
    subst P (sym (read-none blank_zero)) (record { digits = refl; any = refl; number = refl })

pub scanned_blank : (base : ℕ) (blank_zero : Bool) (chars : List ℕ) (i : ℕ) (some : Bool) (amount : Option ℕ) → i < length chars → blank_zero ≡ false → get_or chars i 0 ≡ 32 → Scanned base (blanks_read blank_zero (take i chars)) some amount → Scanned base (blanks_read blank_zero (take (i + 1) chars)) some amount
scanned_blank base true chars i some amount within out blank before = absurd (false≢true (sym out))
scanned_blank base false chars i some amount within out blank before =
    let P : List ℕ → Type 0 = λ read. Scanned base read some amount in
    let same : blanks_read false (take (i + 1) chars) ≡ blanks_read false (take i chars) =
    read-more false chars i within ∙ ap (λ xs. blanks_read false (take i chars) ++ xs) (read-blank (get_or chars i 0) blank) ∙ append-nil (blanks_read false (take i chars)) in
    subst P (sym same) before

below_low : (n : ℕ) → n < 2 ^ 64 → below_64_bits n ≡ Some n
below_low n h = grind (arith, nat_tests)

below_high : (n : ℕ) → 2 ^ 64 ≤ n → below_64_bits n ≡ None
below_high n h = grind (arith, nat_tests)

next_below : (base digit n : ℕ) → 1 ≤ base → next_amount base digit (below_64_bits n) ≡ below_64_bits (n * base + digit)
next_below base digit n some = elim (cases_lt n (2 ^ 64)) [
  | inl low ↦ ap (next_amount base digit) (below_low n low)
  | inr high ↦
      let more : 2 ^ 64 ≤ n * base + digit = omega (arith, le-mul_of_pos_right n some) in
      ap (next_amount base digit) (below_high n high) ∙ sym (below_high (n * base + digit) more)
]

digit_true : (base c : ℕ) → digit_value c < base → is_digit c base ≡ true
digit_true base c h = grind (arith, nat_tests)

digit_false : (base c : ℕ) → base ≤ digit_value c → is_digit c base ≡ false
digit_false base c h = grind (arith, nat_tests)

some_true : (n : ℕ) → 0 < n → ltb 0 n ≡ true
some_true n h = grind (arith, nat_tests)

from_some : (n : ℕ) → true ≡ ltb 0 n → 0 < n
from_some n h = grind (arith, nat_tests)

from_none : (n : ℕ) → false ≡ ltb 0 n → n ≡ 0
from_none n h = grind (arith, nat_tests)

and_false : (b : Bool) → (b && (false && true)) ≡ false
and_false true = refl
and_false false = refl

scanned_push : (base : ℕ) (read : List ℕ) (c : ℕ) (some : Bool) (amount : Option ℕ) → 1 ≤ base → digit_value c < base → Scanned base read some amount → Scanned base (read ++ c ∷ []) true (next_amount base (digit_value c) amount)
scanned_push base read c some amount low digit before = record {
  digits = list_all-append (λ x. is_digit x base) read (c ∷ [])
      ∙ ap (λ b. b && (is_digit c base && true)) before.digits
      ∙ ap (λ b. true && (b && true)) (digit_true base c digit);
  any = sym (some_true (length (read ++ c ∷ [])) (omega (arith, length_push read c)));
  number = ap (next_amount base (digit_value c)) before.number
      ∙ next_below base (digit_value c) (number_of base (map digit_value read)) low
      ∙ ap below_64_bits (sym (ap (number_of base) (map-append digit_value read (c ∷ [])) ∙ number_of-push base (map digit_value read) (digit_value c)));
}

pub scanned_more : (base : ℕ) (blank_zero : Bool) (chars : List ℕ) (i : ℕ) (some : Bool) (amount : Option ℕ) → 1 ≤ base → i < length chars → (blank_zero ≡ true) ⊎ (get_or chars i 0 ≢ 32) → digit_value (as_digit (get_or chars i 0)) < base → Scanned base (blanks_read blank_zero (take i chars)) some amount → Scanned base (blanks_read blank_zero (take (i + 1) chars)) true (next_amount base (digit_value (as_digit (get_or chars i 0))) amount)
scanned_more base blank_zero chars i some amount low within read digit before =
    let P : List ℕ → Type 0 = λ xs. Scanned base xs true (next_amount base (digit_value (as_digit (get_or chars i 0))) amount) in
    let more : blanks_read blank_zero (take (i + 1) chars) ≡ blanks_read blank_zero (take i chars) ++ as_digit (get_or chars i 0) ∷ [] =
    read-more blank_zero chars i within ∙ ap (λ xs. blanks_read blank_zero (take i chars) ++ xs) (read-one blank_zero (get_or chars i 0) read) in
    subst P (sym more) (scanned_push base (blanks_read blank_zero (take i chars)) (as_digit (get_or chars i 0)) some amount low digit before)

-- a character that is no digit
pub number_stops : (base : ℕ) (blank_zero : Bool) (chars : List ℕ) (i : ℕ) → i < length chars → (blank_zero ≡ true) ⊎ (get_or chars i 0 ≢ 32) → base ≤ digit_value (as_digit (get_or chars i 0)) → number_in base (blanks_read blank_zero chars) ≡ None
number_stops base blank_zero chars i within read other =
    let p : ℕ → Bool = λ x. is_digit x base in
    let front : list_all p (blanks_read blank_zero (take (i + 1) chars)) ≡ false =
    ap (list_all p) (read-more blank_zero chars i within ∙ ap (λ xs. blanks_read blank_zero (take i chars) ++ xs) (read-one blank_zero (get_or chars i 0) read))
    ∙ list_all-append p (blanks_read blank_zero (take i chars)) (as_digit (get_or chars i 0) ∷ [])
    ∙ ap (λ b. list_all p (blanks_read blank_zero (take i chars)) && (b && true)) (digit_false base (as_digit (get_or chars i 0)) other)
    ∙ and_false (list_all p (blanks_read blank_zero (take i chars))) in
    number_in-none base (blanks_read blank_zero chars)
    (ap (λ cs. list_all p (blanks_read blank_zero cs)) (sym (take-append-drop (i + 1) chars))
    ∙ ap (list_all p) (read-append blank_zero (take (i + 1) chars) (drop (i + 1) chars))
    ∙ list_all-append p (blanks_read blank_zero (take (i + 1) chars)) (blanks_read blank_zero (drop (i + 1) chars))
    ∙ ap (λ b. b && list_all p (blanks_read blank_zero (drop (i + 1) chars))) front)

answer_of : (n : ℕ) → ok_or (below_64_bits n) (Error 14) ≡ amount_or_condition (Some n)
answer_of n = elim (cases_lt n (2 ^ 64)) [
  | inl low ↦ grind (arith, nat_tests)
  | inr high ↦ grind (arith, nat_tests)
]

-- the whole field
number_ends : (base : ℕ) (read : List ℕ) (amount : Option ℕ) → Scanned base read true amount → ok_or amount (Error 14) ≡ amount_or_condition (number_in base read)
number_ends base read amount all =
    ap (λ a. ok_or a (Error 14)) all.number ∙ answer_of (number_of base (map digit_value read))
    ∙ ap amount_or_condition (sym (number_in-all base read (from_some (length read) all.any) all.digits))

number_in-empty : (base : ℕ) → number_in base [] ≡ None
unfolding number_in
number_in-empty base = refl

number_fails : (base : ℕ) (read : List ℕ) (amount : Option ℕ) → Scanned base read false amount → number_in base read ≡ None
number_fails base read amount all = ap (number_in base) (nil_from_length read (from_none (length read) all.any)) ∙ number_in-empty base

pub field_ends : (base : ℕ) (blank_zero : Bool) (chars : List ℕ) (i : ℕ) (some : Bool) (amount : Option ℕ) → length chars ≤ i → some ≡ true → Scanned base (blanks_read blank_zero (take i chars)) some amount → ok_or amount (Error 14) ≡ amount_or_condition (number_in base (blanks_read blank_zero chars))
field_ends base blank_zero chars i some amount end any before =
    let P : List ℕ → Bool → Type 0 = λ xs b. Scanned base (blanks_read blank_zero xs) b amount in
    let all = subst (λ (b : Bool). P (take i chars) b) any before in
    number_ends base (blanks_read blank_zero chars) amount (subst (λ (xs : List ℕ). P xs true) (take_all i chars end) all)

pub field_fails : (base : ℕ) (blank_zero : Bool) (chars : List ℕ) (i : ℕ) (some : Bool) (amount : Option ℕ) → length chars ≤ i → some ≡ false → Scanned base (blanks_read blank_zero (take i chars)) some amount → number_in base (blanks_read blank_zero chars) ≡ None
field_fails base blank_zero chars i some amount end any before =
    let P : List ℕ → Bool → Type 0 = λ xs b. Scanned base (blanks_read blank_zero xs) b amount in
    let all = subst (λ (b : Bool). P (take i chars) b) any before in
    number_fails base (blanks_read blank_zero chars) amount (subst (λ (xs : List ℕ). P xs false) (take_all i chars end) all)

-- ---- decimal digits alone

pub plain_more : (blank_zero : Bool) (chars : List ℕ) (i : ℕ) (some : Bool) (amount next : ℕ) → i < length chars → 48 ≤ get_or chars i 0 → get_or chars i 0 ≤ 57 → next ≡ amount * 10 + (get_or chars i 0 - 48) → next < 2 ^ 64
    → Scanned 10 (blanks_read blank_zero (take i chars)) some (Some amount) → Scanned 10 (blanks_read blank_zero (take (i + 1) chars)) (ltb 0 (i + 1)) (Some next)
plain_more blank_zero chars i some amount next within low high is fits before =
    let c = get_or chars i 0 in
    let other : c ≢ 32 = λ e. absurd (omega arith) in
    let value : digit_value (as_digit c) ≡ c - 48 = grind (arith, nat_tests) in
    let P : Bool → Option ℕ → Type 0 = λ b o. Scanned 10 (blanks_read blank_zero (take (i + 1) chars)) b o in
    let number : next_amount 10 (digit_value (as_digit c)) (Some amount) ≡ Some next =
    ap (λ d. below_64_bits (amount * 10 + d)) value ∙ ap below_64_bits (sym is) ∙ below_low next fits in
    subst (λ (b : Bool). P b (Some next)) (sym (some_true (i + 1) (omega arith)))
    (subst (λ (o : Option ℕ). P true o) number (scanned_more 10 blank_zero chars i some (Some amount) (omega arith) within (inr other) (omega (arith, value)) before))

pub plain_ends : (blank_zero : Bool) (chars : List ℕ) (i amount : ℕ) → length chars ≤ i → 0 < length chars → Scanned 10 (blanks_read blank_zero (take i chars)) (ltb 0 i) (Some amount)
    → amount_or_condition (number_in 10 (blanks_read blank_zero chars)) ≡ Ok amount
plain_ends blank_zero chars i amount end some before = sym (field_ends 10 blank_zero chars i (ltb 0 i) (Some amount) end (some_true i (omega arith)) before)
