-- An integer that is written before the end of blanks.
use Rattle.std.proofs.Common.{◌≡◌, ℕ, zero, suc, ◌+◌, ◌-◌, ◌<◌, ◌≤◌, List, [], ◌∷◌, ◌++◌, length, take, drop, set, get_or, replicate, Bool, true, false, ℤ, pos, negsuc, unsigned_abs, refl, sym, ap, ◌∙◌, arith, append-nil}
use Rattle.std.specs.Fmt.{decimal}
use Rattle.std.proofs.lemmas.List.{take-append-drop, take-replicate, drop-replicate, drop-append-le, length-replicate}
use Rattle.fj_value.specs.Shown.{sign}
use Rattle.fj_list.specs.ListText.{integer_shown}

in_front : (start s : ℕ) (ds : List ℕ) → 0 < start → set (replicate start 32 ++ ds) (start - 1) s ≡ replicate (start - 1) 32 ++ (s ∷ ds)
in_front start s ds h =
    let e : suc (start - 1) ≡ start = omega arith in
    ap (λ k. set (replicate k 32 ++ ds) (start - 1) s) (sym e) ∙ by (start - 1)
  where
    by : (n : ℕ) → set (replicate (suc n) 32 ++ ds) n s ≡ replicate n 32 ++ (s ∷ ds)
    by zero = refl
    by (suc n) = ap (λ l. 32 ∷ l) (by n)

pub sign_short : (plus : Bool) (n : ℤ) → length (sign plus n) ≤ 1
sign_short true (pos n) = omega arith
sign_short false (pos n) = omega arith
sign_short plus (negsuc n) = omega arith

pub only : (s : List ℕ) → length s ≤ 1 → 0 < length s → s ≡ get_or s 0 0 ∷ []
only [] h k = absurd (omega arith)
only (x ∷ []) h k = refl
only (x ∷ y ∷ s) h k = absurd (omega arith)

module _ (plus : Bool) (n : ℤ) (s : List ℕ) (a start : ℕ) (old new : List ℕ) (is : s ≡ sign plus n) (amount : a ≡ unsigned_abs n) (blank : old ≡ replicate 24 32) (long : start + length (decimal a) ≡ 24)
    (written : drop start new ≡ decimal a ++ drop 24 old) (before : take start new ≡ take start old) where
  over_blanks : new ≡ replicate start 32 ++ decimal a
  over_blanks =
      let none : drop 24 old ≡ [] = ap (drop 24) blank in
      sym (take-append-drop start new) ∙ ap (λ f. f ++ drop start new) (before ∙ ap (take start) blank ∙ take-replicate start 24 32 (omega arith))
      ∙ ap (λ b. replicate start 32 ++ b) (written ∙ ap (λ b. decimal a ++ b) none ∙ append-nil (decimal a))

  pub without_sign : length s ≡ 0 → new ≡ replicate start 32 ++ integer_shown plus n
  without_sign none =
      let empty : s ≡ [] = grind arith in
      over_blanks ∙ ap (λ l. replicate start 32 ++ (l ++ decimal a)) (sym empty) ∙ ap (λ l. replicate start 32 ++ (l ++ decimal a)) is ∙ ap (λ k. replicate start 32 ++ (sign plus n ++ decimal k)) amount

  pub with_sign : 0 < length s → 0 < start → set new (start - 1) (get_or s 0 0) ≡ replicate (start - 1) 32 ++ integer_shown plus n
  with_sign one room =
      let alone : s ≡ get_or s 0 0 ∷ [] = only s (omega (arith, ap length is, sign_short plus n)) one in
      ap (λ l. set l (start - 1) (get_or s 0 0)) over_blanks ∙ in_front start (get_or s 0 0) (decimal a) room
      ∙ ap (λ l. replicate (start - 1) 32 ++ (l ++ decimal a)) (sym alone ∙ is) ∙ ap (λ k. replicate (start - 1) 32 ++ (sign plus n ++ decimal k)) amount

-- blanks before a text, without the first of them
pub fewer_blanks : (start blanks : ℕ) (text : List ℕ) → blanks ≤ start → drop (start - blanks) (replicate start 32 ++ text) ≡ replicate blanks 32 ++ text
fewer_blanks start blanks text h =
    let left : start - (start - blanks) ≡ blanks = omega arith in
    let size : length (replicate {A = ℕ} start 32) ≡ start = length-replicate {A = ℕ} start 32 in
    drop-append-le (start - blanks) (replicate start 32) text (omega (arith, size)) ∙ ap (λ l. l ++ text) (drop-replicate (start - blanks) start 32 ∙ ap (λ k. replicate k 32) left)
