-- Where two lists differ first.
use Rattle.std.proofs.Common.{◌≡◌, ◌≢◌, ℕ, suc, List, [], ◌∷◌, take, Option, Some, None, slice_get, refl, sym, ap, ◌∙◌, subst, inl, inr, if◌then◌else◌}
use Rattle.std.specs.Prelude.{option_map}
use Rattle.std.proofs.lemmas.Bool.{eq-eqb}
use Rattle.std.proofs.lemmas.Bool.Decides.{eqb_tells}
use Rattle.fj_bay.specs.Spoilt.{first_difference}
use Rattle.fj_bay.specs.BayLaws.{FindsFirstDifference}

pub no_difference : (xs : List ℕ) → first_difference xs xs ≡ None
no_difference [] = refl
no_difference (x ∷ xs) = ap (λ b. if b then option_map (λ n. suc n) (first_difference xs xs) else Some 0) (eq-eqb x x refl) ∙ ap (option_map (λ n. suc n)) (no_difference xs)

none_behind : (o : Option ℕ) → option_map (λ n. suc n) o ≡ None → o ≡ None
none_behind None e = refl
none_behind (Some n) e = cc

same : (xs ys : List ℕ) → first_difference xs ys ≡ None → xs ≡ ys
same [] [] e = refl
same [] (y ∷ ys) e = cc
same (x ∷ xs) [] e = cc
same (x ∷ xs) (y ∷ ys) e =
    elim (eqb_tells x y) [
      | inl a ↦
          ap (λ k. k ∷ xs) a.1
          ∙ ap (λ l. y ∷ l) (same xs ys (none_behind (first_difference xs ys) (ap (λ b. if b then option_map (λ n. suc n) (first_difference xs ys) else Some 0) (sym a.0) ∙ e)))
      | inr a ↦ absurd (let no : ◌≡◌ {A = Option ℕ} (Some 0) None = ap (λ b. if b then option_map (λ n. suc n) (first_difference xs ys) else Some 0) (sym a.0) ∙ e in cc)
    ]

-- what is said of the place
abbrev Differs : List ℕ → List ℕ → ℕ → Type 0
Differs xs ys n = (take n xs ≡ take n ys) × (slice_get xs n ≢ slice_get ys n)

one_behind : (x y : ℕ) (xs ys : List ℕ) (o : Option ℕ) (n : ℕ) → x ≡ y → option_map (λ m. suc m) o ≡ Some n → ((m : ℕ) → o ≡ Some m → Differs xs ys m) → Differs (x ∷ xs) (y ∷ ys) n
one_behind x y xs ys None n q e f = cc
one_behind x y xs ys (Some m) n q e f =
    let is : suc m ≡ n = cc in
    let two = f m refl in
    subst (λ k. Differs (x ∷ xs) (y ∷ ys) k) is (ap (λ k. k ∷ take m xs) q ∙ ap (λ l. y ∷ l) two.0, two.1)

first : (xs ys : List ℕ) (n : ℕ) → first_difference xs ys ≡ Some n → Differs xs ys n
first [] [] n e = cc
first [] (y ∷ ys) n e = let is : 0 ≡ n = cc in subst (λ k. Differs [] (y ∷ ys) k) is (refl, λ q. no y q)
  where
    no : (y : ℕ) → ◌≡◌ {A = Option ℕ} None (Some y) → ⊥
    no y q = cc
first (x ∷ xs) [] n e = let is : 0 ≡ n = cc in subst (λ k. Differs (x ∷ xs) [] k) is (refl, λ q. no x q)
  where
    no : (x : ℕ) → ◌≡◌ {A = Option ℕ} (Some x) None → ⊥
    no x q = cc
first (x ∷ xs) (y ∷ ys) n e =
    elim (eqb_tells x y) [
      | inl a ↦ one_behind x y xs ys (first_difference xs ys) n a.1 (ap (λ b. if b then option_map (λ m. suc m) (first_difference xs ys) else Some 0) (sym a.0) ∙ e) (λ m q. first xs ys m q)
      | inr a ↦
          let z : ◌≡◌ {A = Option ℕ} (Some 0) (Some n) = ap (λ b. if b then option_map (λ m. suc m) (first_difference xs ys) else Some 0) (sym a.0) ∙ e in
          let is : 0 ≡ n = cc in
          subst (λ k. Differs (x ∷ xs) (y ∷ ys) k) is (refl, λ q. a.1 (heads q))
    ]
  where
    heads : ◌≡◌ {A = Option ℕ} (Some x) (Some y) → x ≡ y
    heads q = cc

pub finds_first_difference : FindsFirstDifference
finds_first_difference old new = (((λ e. same old new e), (λ e. subst (λ l. first_difference old l ≡ None) e (no_difference old))), (λ n e. first old new n e))
