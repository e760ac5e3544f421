-- How many digits a number has, and the field of an integer that is written over blanks.
use Rattle.std.proofs.Common.{◌≡◌, ℕ, zero, suc, ◌+◌, ◌-◌, ◌/◌, ◌%◌, ◌^◌, ◌<◌, ◌≤◌, List, [], ◌∷◌, ◌++◌, length, take, drop, set, get_or, replicate, Bool, true, false, ◌&&◌, T, eqb, None, ℤ, pos, negsuc, unsigned_abs, refl, sym, ap, ◌∙◌, arith, inl, inr, eq-zero-or-pos, eqb→eq, append-nil}
use lib.Ieee.Fits.{and_l, and_r}
use Rattle.std.specs.Fmt.{decimal}
use Rattle.std.proofs.Math.Nat.{pow-le-pow_right}
use Rattle.std.proofs.Math.ListN.{drop_of_length-le}
use Rattle.std.proofs.lemmas.Bool.Decides.{nat_tests}
use Rattle.std.proofs.lemmas.Fmt.{decimal_by_steps, length-decimal-le, decimal_digit, decimal_nonempty}
use Rattle.std.proofs.lemmas.List.{take-append-drop, take-replicate, length-replicate, length-append}
use Rattle.fj_value.specs.Shown.{sign}
use Rattle.fj_value.specs.Digits.{numeral}
use Rattle.fj_value.proofs.DigitLaws.{numeral-zero, numeral-decimal}
use Rattle.fj_edit_out.specs.declared.row.TheConstants.{FIRST_LONGER}
use Rattle.fj_edit_out.specs.OutputField.{zero_filled, with_sign, adjusted, integer_field}

-- ---- the number of digits

-- the first number that has more than so many digits
abbrev first_longer : ℕ → ℕ
first_longer zero = 0
first_longer (suc k) = 10 ^ suc k

abbrev are_first : ℕ → Bool
are_first zero = true
are_first (suc k) = eqb (get_or FIRST_LONGER k 0) (first_longer k) && are_first k

below : (n k : ℕ) → T (are_first n) → k < n → get_or FIRST_LONGER k 0 ≡ first_longer k
below zero k t h = absurd (omega arith)
below (suc n) k t h =
    elim (eq-zero-or-pos (n - k)) [
      | inl z ↦ let e : k ≡ n = omega arith in rw e (eqb→eq _ _ (and_l _ (are_first n) t))
      | inr g ↦ below n k (and_r _ (are_first n) t) (omega arith)
    ]

pub first_longer_at : (k : ℕ) → k < 20 → get_or FIRST_LONGER k 0 ≡ first_longer k
first_longer_at k h = below 20 k tt h

pub below_digits : (n : ℕ) → n < 2 ^ 64 → n < 10 ^ length (decimal n)
below_digits = decimal_by_steps (λ m ds. m < 10 ^ length ds) (λ m l. omega arith) more
  where
    more : (m : ℕ) (ds : List ℕ) → 10 ≤ m → m / 10 < 10 ^ length ds → m < 10 ^ length (ds ++ ((48 + m % 10) ∷ []))
    more m ds l h =
        let long : length (ds ++ ((48 + m % 10) ∷ [])) ≡ suc (length ds) = omega (arith, length-append ds ((48 + m % 10) ∷ [])) in
        rw long (omega (arith, h))

pub is_short : (n most : ℕ) → n < 2 ^ 64 → n < first_longer most → length (decimal n) ≤ most
is_short n zero h l = absurd (omega arith)
is_short n (suc k) h l = length-decimal-le (suc k) n (omega arith) l h

pub is_below : (n most : ℕ) → n < 2 ^ 64 → length (decimal n) ≤ most → n < first_longer most
is_below n zero h l = absurd (omega (arith, decimal_nonempty n h))
is_below n (suc k) h l =
    let wide : 10 ^ length (decimal n) ≤ 10 ^ suc k = pow-le-pow_right {n = 10} (omega arith) l in
    omega (arith, below_digits n h, wide)

-- ---- a field by its digits

-- one digit at least
pub some_digits : (n : ℕ) → n < 2 ^ 64 → zero_filled None (numeral 10 n) ≡ decimal n
some_digits zero h = ap (λ ds. replicate (1 - length ds) 48 ++ ds) (numeral-zero 10) ∙ sym (decimal_digit 0 (omega arith))
some_digits (suc n) h =
    let none : 1 - length (decimal (suc n)) ≡ 0 = omega (arith, decimal_nonempty (suc n) h) in
    ap (λ ds. replicate (1 - length ds) 48 ++ ds) (numeral-decimal (suc n) (omega arith) h) ∙ ap (λ k. replicate k 48 ++ decimal (suc n)) none

signed : (s ds : List ℕ) → 0 < length ds → with_sign s ds ≡ s ++ ds
signed s ds h = grind (arith, nat_tests)

pub field_is : (plus : Bool) (w : ℕ) (n : ℤ) → unsigned_abs n < 2 ^ 64 → integer_field plus (w, None) n ≡ adjusted w (sign plus n ++ decimal (unsigned_abs n))
field_is plus w n h =
    ap (λ ds. adjusted w (with_sign (sign plus n) ds)) (some_digits (unsigned_abs n) h)
    ∙ ap (adjusted w) (signed (sign plus n) (decimal (unsigned_abs n)) (decimal_nonempty (unsigned_abs n) h))

pub too_long : (w : ℕ) (text : List ℕ) → 0 < w → w < length text → adjusted w text ≡ replicate w 42
too_long w text some h = grind (arith, nat_tests)

pub long_enough : (w : ℕ) (text : List ℕ) → 0 < w → length text ≤ w → adjusted w text ≡ replicate (w - length text) 32 ++ text
long_enough w text some h = grind (arith, nat_tests)

-- digits over blanks, and a character in front of them
over_blanks : (w start : ℕ) (old new ds : List ℕ) → old ≡ replicate w 32 → start + length ds ≡ w → drop start new ≡ ds ++ drop w old → take start new ≡ take start old → new ≡ replicate start 32 ++ ds
over_blanks w start old new ds blank long written before =
    let size : length (replicate {A = ℕ} w 32) ≡ w = length-replicate {A = ℕ} w 32 in
    let none : drop w old ≡ [] = drop_of_length-le old {i = w} (omega (arith, ap length blank, size)) in
    sym (take-append-drop start new) ∙ ap (λ f. f ++ drop start new) (before ∙ ap (take start) blank ∙ take-replicate start w 32 (omega arith))
    ∙ ap (λ b. replicate start 32 ++ b) (written ∙ ap (λ b. ds ++ b) none ∙ append-nil ds)

in_front : (start s : ℕ) (ds : List ℕ) → 0 < start → set (replicate start 32 ++ ds) (start - 1) s ≡ replicate (start - 1) 32 ++ (s ∷ ds)
in_front start s ds h =
    let e : suc (start - 1) ≡ start = omega arith in
    ap (λ k. set (replicate k 32 ++ ds) (start - 1) s) (sym e) ∙ by (start - 1)
  where
    by : (n : ℕ) → set (replicate (suc n) 32 ++ ds) n s ≡ replicate n 32 ++ (s ∷ ds)
    by zero = refl
    by (suc n) = ap (λ l. 32 ∷ l) (by n)

sign_short : (plus : Bool) (n : ℤ) → length (sign plus n) ≤ 1
sign_short true (pos n) = omega arith
sign_short false (pos n) = omega arith
sign_short plus (negsuc n) = omega arith

-- ---- an integer that is written over blanks

module _ (plus : Bool) (w : ℕ) (n : ℤ) (s : List ℕ) (a : ℕ) (is : s ≡ sign plus n) (amount : a ≡ unsigned_abs n) (fits : a < 2 ^ 64) (some : 0 < w) where
  shown : integer_field plus (w, None) n ≡ adjusted w (s ++ decimal a)
  shown = field_is plus w n (omega (arith, amount, fits)) ∙ ap (λ l. adjusted w (l ++ decimal (unsigned_abs n))) (sym is) ∙ ap (λ k. adjusted w (s ++ decimal k)) (sym amount)

  short : length s ≤ 1
  short = omega (arith, ap length is, sign_short plus n)

  pub is_stars : (length (decimal a) ≤ w - length s → ⊥) → integer_field plus (w, None) n ≡ replicate w 42
  is_stars long = shown ∙ too_long w (s ++ decimal a) some (grind (arith, length-append s (decimal a), short, long))

  pub is_digits : (start : ℕ) (old new : List ℕ) → old ≡ replicate w 32 → start + length (decimal a) ≡ w → drop start new ≡ decimal a ++ drop w old → take start new ≡ take start old → length s ≡ 0
      → new ≡ integer_field plus (w, None) n
  is_digits start old new blank long written before none =
      let front : w - length (decimal a) ≡ start = omega arith in
      let empty : s ≡ [] = grind arith in
      over_blanks w start old new (decimal a) blank long written before
      ∙ ap (λ k. replicate k 32 ++ decimal a) (sym front)
      ∙ sym (shown ∙ ap (λ l. adjusted w (l ++ decimal a)) empty ∙ long_enough w (decimal a) some (omega arith))

  pub is_signed : (start : ℕ) (old new : List ℕ) → old ≡ replicate w 32 → start + length (decimal a) ≡ w → drop start new ≡ decimal a ++ drop w old → take start new ≡ take start old
      → 0 < length s → length (decimal a) ≤ w - length s → set new (start - 1) (get_or s 0 0) ≡ integer_field plus (w, None) n
  is_signed start old new blank long written before one room =
      let c = get_or s 0 0 in
      let alone : s ≡ c ∷ [] = only s short one in
      let front : w - length (c ∷ decimal a) ≡ start - 1 = omega (arith, short) in
      ap (λ l. set l (start - 1) c) (over_blanks w start old new (decimal a) blank long written before)
      ∙ in_front start c (decimal a) (omega (arith, short))
      ∙ ap (λ k. replicate k 32 ++ (c ∷ decimal a)) (sym front)
      ∙ sym (shown ∙ ap (λ l. adjusted w (l ++ decimal a)) alone ∙ long_enough w (c ∷ decimal a) some (omega (arith, short)))
    where
      only : (s : List ℕ) → length s ≤ 1 → 0 < length s → s ≡ get_or s 0 0 ∷ []
      only [] h k = absurd (omega arith)
      only (x ∷ []) h k = refl
      only (x ∷ y ∷ s) h k = absurd (omega arith)
