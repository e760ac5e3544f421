-- How many elements a list has whose numbers differ, or cover a range.
use Rattle.std.proofs.Common.{◌≡◌, ℕ, zero, suc, ◌+◌, ◌<◌, ◌≤◌, Bool, true, false, not, List, [], ◌∷◌, length, refl, sym, ap, ◌∙◌, subst, inl, inr, ◌||◌, arith}
use Rattle.std.specs.Prelude.{◌==◌, if◌then◌else◌, filter}
use Rattle.std.specs.List.{list_any}
use Rattle.std.proofs.lemmas.Bool.{ne_eqb}
use Rattle.std.proofs.lemmas.Bool.Decides.{eqb_tells}
use Rattle.fj_meaning_jobs.proofs.Apart.{Each, Apart, Differs, apart_filter}

-- a list of numbers that differ and are below n is no longer than n; one that has all numbers below n is no shorter
fewer : (m : ℕ) (xs : List ℕ) → Apart (λ x. x) xs → length xs ≤ length (filter (λ x. not (x == m)) xs) + 1
fewer m [] h = omega (arith)
fewer m (x ∷ xs) h =
    elim (eqb_tells x m) [
      | inl a ↦
          let kept : filter (λ y. not (y == m)) xs ≡ xs = all m xs (subst (λ k. Differs (λ y. y) k xs) a.1 h.0) in
          let whole : filter (λ y. not (y == m)) (x ∷ xs) ≡ xs = ap (λ b. if not b then x ∷ filter (λ y. not (y == m)) xs else filter (λ y. not (y == m)) xs) a.0 ∙ kept in
          let long : length (filter (λ y. not (y == m)) (x ∷ xs)) ≡ length xs = ap length whole in
          omega (arith, long)
      | inr a ↦
          let whole : filter (λ y. not (y == m)) (x ∷ xs) ≡ x ∷ filter (λ y. not (y == m)) xs = ap (λ b. if not b then x ∷ filter (λ y. not (y == m)) xs else filter (λ y. not (y == m)) xs) a.0 in
          let long : length (filter (λ y. not (y == m)) (x ∷ xs)) ≡ length (filter (λ y. not (y == m)) xs) + 1 = ap length whole ∙ omega (arith) in
          omega (arith, long, fewer m xs h.1)
    ]
  where
    all : (m : ℕ) (xs : List ℕ) → Differs (λ y. y) m xs → filter (λ y. not (y == m)) xs ≡ xs
    all m [] h = refl
    all m (x ∷ xs) h = ap (λ b. if not b then x ∷ filter (λ y. not (y == m)) xs else filter (λ y. not (y == m)) xs) (ne_eqb x m h.0) ∙ ap (λ l. x ∷ l) (all m xs h.1)

each_but : (m : ℕ) (xs : List ℕ) → Each (λ x. x < suc m) xs → Each (λ x. x < m) (filter (λ x. not (x == m)) xs)
each_but m [] h = tt
each_but m (x ∷ xs) h =
    elim (eqb_tells x m) [
      | inl a ↦ subst (λ b. Each (λ y. y < m) (if not b then x ∷ filter (λ y. not (y == m)) xs else filter (λ y. not (y == m)) xs)) (sym a.0) (each_but m xs h.1)
      | inr a ↦ subst (λ b. Each (λ y. y < m) (if not b then x ∷ filter (λ y. not (y == m)) xs else filter (λ y. not (y == m)) xs)) (sym a.0) (omega (arith, h.0, a.1), each_but m xs h.1)
    ]

pub no_longer : (n : ℕ) (xs : List ℕ) → Apart (λ x. x) xs → Each (λ x. x < n) xs → length xs ≤ n
no_longer zero [] h k = omega (arith)
no_longer zero (x ∷ xs) h k = absurd (omega (arith, k.0))
no_longer (suc n) xs h k = omega (arith, fewer n xs h, no_longer n (filter (λ x. not (x == n)) xs) (apart_filter (λ x. x) (λ x. not (x == n)) xs h) (each_but n xs k))

some_shorter : {X : Type 0} → (p : X → Bool) (xs : List X) → length (filter p xs) ≤ length xs
some_shorter p [] = omega (arith)
some_shorter p (y ∷ ys) = more (p y) (some_shorter p ys)
  where
    more : (b : Bool) → length (filter p ys) ≤ length ys → length (if b then y ∷ filter p ys else filter p ys) ≤ length (y ∷ ys)
    more true h = omega (arith, h)
    more false h = omega (arith, h)

shorter : {X : Type 0} → (f : X → ℕ) (m : ℕ) (xs : List X) → list_any (λ x. f x == m) xs ≡ true → length (filter (λ x. not (f x == m)) xs) < length xs
shorter f m [] h = cc
shorter f m (x ∷ xs) h = by (f x == m) refl h (λ h. shorter f m xs h)
  where
    by : (b : Bool) → (f x == m) ≡ b → (b || list_any (λ y. f y == m) xs) ≡ true → (list_any (λ y. f y == m) xs ≡ true → length (filter (λ y. not (f y == m)) xs) < length xs)
        → length (if not (f x == m) then x ∷ filter (λ y. not (f y == m)) xs else filter (λ y. not (f y == m)) xs) < length (x ∷ xs)
    by true e h g = subst (λ b. length (if not b then x ∷ filter (λ y. not (f y == m)) xs else filter (λ y. not (f y == m)) xs) < length (x ∷ xs)) (sym e) (omega (arith, some_shorter (λ y. not (f y == m)) xs))
    by false e h g = subst (λ b. length (if not b then x ∷ filter (λ y. not (f y == m)) xs else filter (λ y. not (f y == m)) xs) < length (x ∷ xs)) (sym e) (omega (arith, g h))

still_any : {X : Type 0} → (f : X → ℕ) (m k : ℕ) (xs : List X) → (k ≡ m → ⊥) → list_any (λ x. f x == k) xs ≡ true → list_any (λ x. f x == k) (filter (λ x. not (f x == m)) xs) ≡ true
still_any f m k [] ne h = h
still_any f m k (x ∷ xs) ne h =
    elim (eqb_tells (f x) m) [
      | inl a ↦
          let other : (f x == k) ≡ false = ne_eqb (f x) k (λ e. ne (sym e ∙ a.1)) in
          subst (λ b. list_any (λ y. f y == k) (if not b then x ∷ filter (λ y. not (f y == m)) xs else filter (λ y. not (f y == m)) xs) ≡ true) (sym a.0)
          (still_any f m k xs ne (ap (λ b. b || list_any (λ y. f y == k) xs) (sym other) ∙ h))
      | inr a ↦
          subst (λ b. list_any (λ y. f y == k) (if not b then x ∷ filter (λ y. not (f y == m)) xs else filter (λ y. not (f y == m)) xs) ≡ true) (sym a.0)
          (by (f x == k) h (λ h. still_any f m k xs ne h))
    ]
  where
    by : (b : Bool) → (b || list_any (λ y. f y == k) xs) ≡ true → (list_any (λ y. f y == k) xs ≡ true → list_any (λ y. f y == k) (filter (λ y. not (f y == m)) xs) ≡ true)
        → (b || list_any (λ y. f y == k) (filter (λ y. not (f y == m)) xs)) ≡ true
    by true h g = refl
    by false h g = g h

pub no_shorter : {X : Type 0} → (f : X → ℕ) (n : ℕ) (xs : List X) → ((k : ℕ) → k < n → list_any (λ x. f x == k) xs ≡ true) → n ≤ length xs
no_shorter f zero xs h = omega (arith)
no_shorter f (suc n) xs h =
    let one = shorter f n xs (h n (omega (arith))) in
    let rest = no_shorter f n (filter (λ x. not (f x == n)) xs) (λ k l. still_any f n k xs (λ e. absurd (omega (arith, l, e))) (h k (omega (arith, l)))) in
    omega (arith, one, rest)
